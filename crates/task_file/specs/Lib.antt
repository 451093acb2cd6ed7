pub mod TaskFile
