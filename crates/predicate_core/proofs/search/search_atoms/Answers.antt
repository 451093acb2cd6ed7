use Rattle.std.proofs.Common.{◌++◌, ap, sym, ◌∙◌, arith, length-append}
use Rattle.predicate_core.specs.Atoms.{columns_compared, constants_compared, null_tests}
use Rattle.predicate_core.specs.Search.{searched, started}
use Rattle.predicate_core.proofs.SearchLaws.{searched_append, searched_count}
use Rattle.predicate_core.proofs.search.search_atoms.Goals as goal

pub pass_columns_compared-columns-requires : goal.pass_columns_compared-columns-requires
pass_columns_compared-columns-requires c =
    let types = c.args.types.now in
    let constants = c.args.constants.now in
    let front = length-append (columns_compared 0 types) (constants_compared 0 constants types) in
    let all = length-append (columns_compared 0 types ++ constants_compared 0 constants types) (null_tests 0 types) in
    record { few = omega (arith, front, all, c.requires.few) }

pub pass_constants_compared-all-requires : goal.pass_constants_compared-all-requires
pass_constants_compared-all-requires c =
    let types = c.args.types.now in
    let constants = c.args.constants.now in
    let front = length-append (columns_compared 0 types) (constants_compared 0 constants types) in
    let all = length-append (columns_compared 0 types ++ constants_compared 0 constants types) (null_tests 0 types) in
    let come = ap (λ x. x.count) c.pass_columns_compared-columns.ensures ∙ searched_count (started c.args.atom) (columns_compared 0 types) in
    record { few = omega (arith, front, all, come, c.requires.few) }

pub pass_null_tests-requires : goal.pass_null_tests-requires
pass_null_tests-requires c =
    let types = c.args.types.now in
    let constants = c.args.constants.now in
    let front = length-append (columns_compared 0 types) (constants_compared 0 constants types) in
    let all = length-append (columns_compared 0 types ++ constants_compared 0 constants types) (null_tests 0 types) in
    let come = ap (λ x. x.count) c.pass_columns_compared-columns.ensures ∙ searched_count (started c.args.atom) (columns_compared 0 types) in
    let more = ap (λ x. x.count) c.pass_constants_compared-all.ensures ∙ searched_count c.pass_columns_compared-columns.result (constants_compared 0 constants types) in
    record { few = omega (arith, front, all, come, more, c.requires.few) }

pub returns : goal.returns
returns c =
    let types = c.args.types.now in
    let constants = c.args.constants.now in
    let columns = columns_compared 0 types in
    let values = constants_compared 0 constants types in
    let nulls = null_tests 0 types in
    let front = ap (λ s. searched s values) c.pass_columns_compared-columns.ensures ∙ sym (searched_append (started c.args.atom) columns values) in
    let back = sym (searched_append (started c.args.atom) (columns ++ values) nulls) in
    c.pass_null_tests.ensures ∙ (ap (λ s. searched s nulls) (c.pass_constants_compared-all.ensures ∙ front) ∙ back)
