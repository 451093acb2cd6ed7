-- The records of a text of comma-separated fields.
use Rattle.std.specs.Prelude.{ℕ, List}
use Rattle.csv.specs.Reading.{default_config, records, strip_bom}

-- all records of a text in order, each as the list of its fields, without the byte order mark that the text may begin with
unfoldable pub records_of : List ℕ → List (List (List ℕ))
records_of text = records default_config (strip_bom text)
