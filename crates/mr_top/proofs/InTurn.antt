-- The inputs that were read so far, and the stage of those that are left.
use Rattle.std.proofs.Common.{◌≡◌, ℕ, ◌+◌, ◌<◌, ◌≤◌, List, [], ◌∷◌, ◌++◌, length, drop, get_or, Some, None, Ok, Err, refl, sym, ap, subst}
use Rattle.std.proofs.Common.{◌∙◌, arith}
use Rattle.std.specs.declared.option.Option.{Option}
use Rattle.std.proofs.lemmas.List.{drop_more, append_assoc, append-nil}
use Rattle.std.proofs.lemmas.List.Elements.{All-append}
use Rattle.std.specs.Prelude.{All, zero, suc}
use Rattle.std.proofs.Math.ListN.{drop_of_length-le}
use Rattle.mr_defs.specs.Limits.{input_limit}
use Rattle.mr_jobs.specs.Ending.{Ended, passed}
use Rattle.mr_top.specs.Stages.{Contents, ComesTo}
use Rattle.mr_top.specs.RunEnding.{inputs_from, input_at}
use Rattle.mr_top.proofs.Stages.{Carries}

-- these inputs stand before the rest
abbrev pub behind : List (List ℕ) → Ended (List (List ℕ)) → Ended (List (List ℕ))
behind taken ended = passed ended (λ rest. Ok (taken ++ rest))

-- where contents are told, all inputs are those that were taken, and behind them those of the names from this index on
abbrev pub Reads : Option Contents → List (List ℕ) → ℕ → List (List ℕ) → Type 0
Reads None names index taken = Unit {0}
Reads (Some content) names index taken = inputs_from 1 names content ≡ behind taken (inputs_from (index + 1) (drop index names) content)

behind_none : (ended : Ended (List (List ℕ))) → ended ≡ behind [] ended
behind_none (Ok rest) = refl
behind_none (Err r) = refl

pub reads_start : (contents : Option Contents) (names : List (List ℕ)) → Reads contents names 0 []
reads_start None names = tt
reads_start (Some content) names = behind_none (inputs_from 1 names content)

pub reads_end : (contents : Option Contents) (names : List (List ℕ)) (index : ℕ) (taken : List (List ℕ))
    → Reads contents names index taken → length names ≤ index
    → ComesTo contents (inputs_from 1 names) (Ok taken)
reads_end None names index taken reads h = tt
reads_end (Some content) names index taken reads h =
    reads ∙ ap (λ left. behind taken (inputs_from (index + 1) left content)) (drop_of_length-le names h) ∙ ap Ok (append-nil taken)

-- the input at this index, then the rest
abbrev next_ones : Contents → List (List ℕ) → ℕ → List ℕ → Ended (List (List ℕ))
next_ones content names index bytes = passed (inputs_from (index + 1 + 1) (drop (index + 1) names) content) (λ rest. Ok (bytes ∷ rest))

at_index : (content : Contents) (names : List (List ℕ)) (index : ℕ) (taken : List (List ℕ)) (name : List ℕ) → index < length names
    → name ≡ get_or names index [] → Reads (Some content) names index taken
    → inputs_from 1 names content ≡ behind taken (passed (input_at (index + 1) name content) (next_ones content names index))
at_index content names index taken name h is reads =
    reads ∙ ap (λ left. behind taken (inputs_from (index + 1) left content)) (drop_more names index [] h)
    ∙ ap (λ n. behind taken (passed (input_at (index + 1) n content) (next_ones content names index))) (sym is)

one_more : (taken : List (List ℕ)) (bytes : List ℕ) (left : Ended (List (List ℕ)))
    → behind taken (passed left (λ rest. Ok (bytes ∷ rest))) ≡ behind (taken ++ bytes ∷ []) left
one_more taken bytes (Ok rest) = ap Ok (sym (append_assoc taken (bytes ∷ []) rest))
one_more taken bytes (Err r) = refl

pub reads_more : (contents : Option Contents) (names : List (List ℕ)) (index : ℕ) (taken : List (List ℕ)) (name bytes : List ℕ)
    → index < length names → name ≡ get_or names index [] → Reads contents names index taken
    → ComesTo contents (input_at (index + 1) name) (Ok bytes) → Reads contents names (index + 1) (taken ++ bytes ∷ [])
reads_more None names index taken name bytes h is reads has = tt
reads_more (Some content) names index taken name bytes h is reads has =
    at_index content names index taken name h is reads
    ∙ ap (λ read. behind taken (passed read (next_ones content names index))) has
    ∙ one_more taken bytes (inputs_from (index + 1 + 1) (drop (index + 1) names) content)

-- a refusal of the input at this index is one of all
pub reads_stop : (contents : Option Contents) (names : List (List ℕ)) (index : ℕ) (taken : List (List ℕ)) (name : List ℕ)
    → index < length names → name ≡ get_or names index [] → Reads contents names index taken
    → Carries contents (input_at (index + 1) name) (inputs_from 1 names)
reads_stop contents names index taken name h is reads content e r given =
    at_index content names index taken name h is (subst (λ c. Reads c names index taken) e reads)
    ∙ ap (λ read. behind taken (passed read (next_ones content names index))) given

-- one more input that is short
pub short_more : (taken : List (List ℕ)) (bytes : List ℕ) → All (λ bytes. length bytes ≤ input_limit) taken → length bytes ≤ input_limit
    → All (λ bytes. length bytes ≤ input_limit) (taken ++ bytes ∷ [])
short_more taken bytes short one = All-append (λ bytes. length bytes ≤ input_limit) taken (bytes ∷ []) short at_zero
  where
    at_zero : (k : ℕ) (d : List ℕ) → k < 1 → length (get_or (bytes ∷ []) k d) ≤ input_limit
    at_zero zero d h = one
    at_zero (suc k) d h = absurd (omega (arith, h))
