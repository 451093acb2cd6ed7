use Rattle.std.proofs.Common.{rules}
use Rattle.std.proofs.lemmas.Fn.{filter_same}
use Rattle.bit_classes.specs.Sieves.{is_wanted}
use Rattle.bit_classes.proofs.listing.sift.Goals as goal

pub returns : goal.returns
returns g c = filter_same _ (is_wanted (g.S.Sieve.may c.args.sieve.now)) _ (λ x b f' k. search (rules, k)) _ _ c.retain.ensures.filtered
