use Rattle.std.proofs.Common.{◌≡◌, ◌<◌, ℕ, List, Some, true}
use Rattle.csv.specs.Reading.{Reached, Ready, default_config, is_flexible, source_of, strip_bom}
use Rattle.csv.specs.declared.parser.State.TheVariants as st
use Rattle.csv.specs.declared.reader.Trim.TheVariants as trim
use Rattle.csv_records.proofs.reading.read_records.Given as goal

abbrev pub invariant-loop-row : goal.invariant-loop-row
invariant-loop-row l = record {
  untrimmed : l.row-iterator.rdr.trim ≡ trim.None;
  flexible : is_flexible l.row-iterator.rdr ≡ true;
  ready : Ready l.row-iterator.rdr;
  turns : 0 < l.row-iterator.left;
  config : l.row-iterator.rdr.config ≡ default_config;
  reached : (y : List ℕ) × (source_of (λ s. Some s.now) l.row-iterator.rdr ≡ Some y) × Reached default_config st.StartRecord (strip_bom l.fn.text) l.rows l.row-iterator.rdr.state y;
}
