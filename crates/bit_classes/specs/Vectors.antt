-- The vectors of the predicates over some rows, in the order of the predicates.
use Rattle.std.specs.Prelude.{ℕ, nat_le, if◌then◌else◌, Bool, true, List, [], ◌∷◌, ◌++◌, map, replicate}
use Rattle.predicate_core.specs.Atoms.{pairs, triples}
use Rattle.bit_rows.specs.Bits.{and_bits, or_bits}
use Rattle.bit_classes.specs.declared.join.Join.{Join}
use Rattle.bit_classes.specs.declared.join.Join.TheVariants.{And, Or}

-- two vectors combined by AND or by OR
abbrev pub combined : Join → List Bool → List Bool → List Bool
combined And xs ys = and_bits xs ys
combined Or xs ys = or_bits xs ys

-- each two vectors of a list, combined
abbrev pub combined_pairs : Join → List (List Bool) → List (List Bool)
combined_pairs join rows = map (λ p. combined join p.0 p.1) (pairs rows)

-- each three vectors of a list, combined
abbrev pub combined_triples : Join → List (List Bool) → List (List Bool)
combined_triples join rows = map (λ p. combined join (combined join p.0 p.1) p.2) (triples rows)

-- the vectors of the predicates of two or three atoms, as far as the bound goes: of each number the ANDs, and then the ORs
abbrev pub more_vectors : List (List Bool) → ℕ → List (List Bool)
more_vectors rows bound =
    (if nat_le 2 bound then combined_pairs And rows ++ combined_pairs Or rows else [])
    ++ (if nat_le 3 bound then combined_triples And rows ++ combined_triples Or rows else [])

-- the vectors of the predicates of up to `bound` atoms, where these are the vectors of the atoms: first that of Always
abbrev pub vectors : ℕ → List (List Bool) → ℕ → List (List Bool)
vectors width rows bound = replicate width true ∷ (rows ++ more_vectors rows bound)
