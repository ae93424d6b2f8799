-- A block of pairs, which is handed over at once, and a run of values of one key.
use Rattle.std.specs.Prelude.{List, map}
use Rattle.mr_defs.specs.Emission.{Emission, Pair}

-- the emissions of its pairs, in their order
abbrev pub block_emissions : {K V : Type 0} → List (K × V) → List (Emission K V)
block_emissions pairs = map (λ p. Pair p.0 p.1) pairs

-- the emissions of a key with each of the values, in their order
abbrev pub run_emissions : {K V : Type 0} → K → List V → List (Emission K V)
run_emissions key values = map (λ v. Pair key v) values
