use Rattle.std.proofs.Common.{◌≡◌, sym, ap, ◌∙◌, false, ℕ, List, [], ◌∷◌, ◌++◌, is_some, arith}
use Rattle.std.specs.Map.{lookup}
use Rattle.indexmap.proofs.CallerLemmas.{insert_entry-new}
use Rattle.bit_rows.specs.Bits.{same_bits}
use Rattle.bit_classes.specs.declared.class.Class.{Class}
use Rattle.bit_classes.specs.Walk.{Walk}
use Rattle.bit_classes.proofs.WalkLaws.{absent, sees_known, sees_full, sees_new}
use Rattle.bit_classes.proofs.found.Found.see.Goals as goal
use Rattle.bit_classes.proofs.found.Found.see.Goals.{in-Ok, in-Err}

pub returns-then-contains_key : goal.returns-then-contains_key
returns-then-contains_key c =
    let shown = ap (λ (w : Walk). w.classes) c.self.view_is in
    sees_known c.args.self.now c.self.inside.numbers.entries c.args.number c.args.row.now shown (sym c.contains_key.ensures ∙ c.if-contains_key.true)

pub returns-then-len-self : goal.returns-then-len-self
returns-then-len-self c =
    let shown = ap (λ (w : Walk). w.classes) c.self.view_is in
    let limit = ap (λ (w : Walk). w.limit) c.self.view_is in
    λ more. sees_full c.args.self.now c.self.inside.numbers.entries c.args.number c.args.row.now shown (sym c.contains_key.ensures ∙ c.if-contains_key.false) (omega (arith, limit, c.len.ensures.len))

pub returns : goal.returns
returns c =
    let map_now = c.self.inside.numbers in
    let vector = c.args.row.now in
    let found : is_some (lookup (same_bits vector) map_now.entries) ≡ false = sym c.contains_key.ensures ∙ c.if-contains_key.false in
    let shown = ap (λ (w : Walk). w.classes) c.self.view_is in
    let limit = ap (λ (w : Walk). w.limit) c.self.view_is in
    let after : List Class → ℕ → ℕ → Walk = λ cs w l. record { classes = cs; width = w; limit = l } in
    let width = ap (λ (w : Walk). w.width) c.self.view_is in
    elim c.match-insert.branch [
      | in-Ok w ↦
          let row = c.in_ok-row.row in
          let added = w.in-Ok.ensures.entries ∙ insert_entry-new same_bits map_now row c.args.number (absent _ (ap (λ v. is_some (lookup (same_bits v) map_now.entries)) c.in_ok-row.ensures ∙ found)) in
          let is : c.insert.new.self.entries ≡ map_now.entries ++ (vector, c.args.number) ∷ [] = added ∙ ap (λ v. map_now.entries ++ (v, c.args.number) ∷ []) c.in_ok-row.ensures in
          let classes = sees_new c.args.self.now map_now.entries c.insert.new.self.entries c.args.number vector shown found is in
          rw w.result-is (λ i. after (classes i) (width i) (limit i))
      | in-Err w ↦ rw w.result-is (λ e. cc)
    ]
