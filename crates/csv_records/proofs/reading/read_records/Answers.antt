use Rattle.std.proofs.Common.{Bor, List, [], ℕ, ◌∙◌, sym, refl, arith, inl, inr, Some}
use Rattle.csv.specs.Reading.{Reached, default_config, strip_bom, error_kind}
use Rattle.csv.specs.Records.{fields_of}
use Rattle.csv.specs.declared.parser.State.TheVariants as st
use Rattle.csv.proofs.ReadFacts.{rows-end, rows-more}
use Rattle.csv_records.proofs.RecordsFacts.{flexible-stops, records-reached}
use Rattle.csv_records.specs.Records.{records_of}
use Rattle.csv_records.proofs.reading.read_records.Goals as goal

pub loop-row-init : goal.loop-row-init
unfolding Reached
loop-row-init c =
    let fr = c.from_reader-reader.ensures in
    let e = c.has_headers.ensures in
    let f = c.flexible.ensures in
    let start = c.into_iter-row-iterator.ensures.into_iter_gives in
    let rdr = c.into_byte_records-row-items.ensures.rdr in
    let left = c.into_byte_records-row-items.ensures.left in
    rw (start, rdr, c.new-rows.ensures) (record {
      untrimmed = rw (f, e) at fr.trim ∙ c.new.ensures.trim;
      flexible = rw f at fr.flexible;
      ready = inr (inr (rw (f, e) at fr.has_headers, fr.headers));
      turns = left;
      config = rw (f, e) at fr.config ∙ c.new.ensures.config;
      reached = (strip_bom c.args.text.now, fr.source, (sym fr.state, refl));
    })

pub loop-row-preserved : goal.loop-row-preserved
loop-row-preserved c =
    let inv = c.loop-row.invariant in
    let steps = c.next.ensures.steps inv.turns inv.untrimmed in
    let s = rw (c.in-Some.is, c.in-Ok.is) at (steps.0 inv.ready) in
    let flexible = rw (c.in-Some.is, c.in-Ok.is) at steps.3 in
    let m = rows-more (λ (s : Bor (List ℕ)). Some s.now) c.loop-row.row-iterator.rdr c.next.new.self.rdr (fields_of c.in-Ok.row) default_config st.StartRecord (strip_bom c.args.text.now) inv.reached.0 c.loop-row.rows inv.config inv.reached.1 inv.reached.2 s.0 in
    record {
      untrimmed = s.0.3 ∙ inv.untrimmed;
      flexible = flexible ∙ inv.flexible;
      ready = inl s.1;
      turns = s.2;
      config = s.0.2 ∙ inv.config;
      reached = (m.0, m.1, rw (c.in_ok-push-in-Ok.ensures.ok, c.of.ensures) m.2);
    }

pub want_of_memory-requires : goal.want_of_memory-requires
want_of_memory-requires c =
    let inv = c.loop-row.invariant in
    let s = rw (c.in-Some.is, c.in-Err.is) at ((c.next.ensures.steps inv.turns inv.untrimmed).0 inv.ready) in
    flexible-stops (λ (s : Bor (List ℕ)). Some s.now) c.loop-row.row-iterator.rdr c.next.new.self.rdr (error_kind c.in-Err.error) inv.flexible s

pub returns : goal.returns
unfolding records_of
returns c =
    let inv = c.loop-row.invariant in
    let s = rw c.in-None.is at ((c.next.ensures.steps inv.turns inv.untrimmed).0 inv.ready) in
    let last = rows-end (λ (s : Bor (List ℕ)). Some s.now) c.loop-row.row-iterator.rdr c.next.new.self.rdr [] default_config inv.reached.0 inv.config inv.reached.1 s in
    sym (records-reached _ c.loop-row.rows st.StartRecord c.loop-row.row-iterator.rdr.state (strip_bom c.args.text.now) inv.reached.0 refl (omega arith) inv.reached.2 last)
