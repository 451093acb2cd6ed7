-- The order of keys is total.
use Rattle.std.specs.Cmp.{IsTotalOrder}
use Rattle.std.proofs.lemmas.Cmp.{on_total, then_total, nat_cmp_total, nat_list_cmp_total}
use Rattle.query_core.specs.Rank.{Key, key_order, distinct_cost}

pub key_order_total : IsTotalOrder key_order
key_order_total =
    then_total (on_total (λ (k : Key). k.unused) nat_cmp_total) (
    then_total (on_total (λ (k : Key). k.cost) nat_cmp_total) (
    then_total (on_total (λ (k : Key). k.skeleton) nat_cmp_total) (
    then_total (on_total (λ (k : Key). k.numbers) nat_list_cmp_total) (
    then_total (on_total (λ (k : Key). k.picks) nat_list_cmp_total) (
    on_total (λ (k : Key). distinct_cost k.distinct) nat_cmp_total)))))
