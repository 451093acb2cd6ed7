use Rattle.std.proofs.Common.{ap, sym, ◌∙◌, unwrap_or}
use Rattle.predicate_core.proofs.PredPlaceLaws.{atoms_few, pred_numbered}
use Rattle.predicate_core.proofs.place_number.pred_number.Goals as goal

pub preds_len-len-requires : goal.preds_len-len-requires
preds_len-len-requires c = record { few = atoms_few c.args.types.now c.args.constants.now c.requires.few }

pub pred_place-requires : goal.pred_place-requires
pred_place-requires c = record { few = atoms_few c.args.types.now c.args.constants.now c.requires.few }

pub returns : goal.returns
returns c =
    let o = c.pred_place.result in
    c.place_or.ensures ∙ (ap (λ n. unwrap_or o n) c.preds_len-len.ensures ∙ sym (pred_numbered c.args.types.now c.args.constants.now c.args.bound c.args.pred.now o c.pred_place.ensures))
