use Rattle.std.proofs.Common.{sym}
use Rattle.toml.specs.Errors.{IsMemory}
use Rattle.toml.specs.View.{table_view}
use Rattle.toml_keys.proofs.Utf8.{document_of_text, document_of_error}
use Rattle.toml_keys.proofs.document.read_document.Goals as goal

pub returns-in-Ok : goal.returns-in-Ok
returns-in-Ok c = sym (document_of_text c.args.bytes.now _ c.in-Ok.ensures.ok)

pub returns-in-Err : goal.returns-in-Err
returns-in-Err c = document_of_error table_view c.args.bytes.now (IsMemory c.in-Err.error) c.no_document.result c.no_document.ensures.memory c.no_document.ensures.none c.in-Err.ensures.refused
