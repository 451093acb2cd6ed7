pub mod RecordsFacts
