use Rattle.std.proofs.Common.{refl, ap, ap₂, true, sym, ◌≡◌, ◌∙◌, map, List, length, ◌==◌, [], ◌∷◌, inl, inr, false, arith}
use Rattle.clap.specs.Words.{kind_of, HasKind, IsAmong}
use Rattle.clap.specs.declared.error.ErrorKind.{ErrorKind}
use Rattle.clap.specs.declared.error.ErrorKind.TheVariants.{OutOfMemory}
use Rattle.clap.specs.declared.Error.{Error}
use Rattle.clap.specs.Words.{is_simple, is_simple_and_free, matches_of, fault_of, Text}
use Rattle.mr_command.specs.Simple.{mapred_app, is_accepted, rows}
use Rattle.mr_command.proofs.parse.parse.Goals as goal

simple : is_simple mapred_app ≡ true
simple = refl

free : is_simple_and_free mapred_app ≡ true
free = refl

same_words : (words : List Text) → map (λ w. w) words ≡ words
same_words [] = refl
same_words (w ∷ ws) = ap (λ rest. w ∷ rest) (same_words ws)

pub returns-in-Ok-try_get_matches_from-clause-ok : goal.returns-in-Ok-try_get_matches_from-clause-ok
unfolding is_accepted rows
returns-in-Ok-try_get_matches_from-clause-ok c =
    let app = c.in-Ok.ensures in
    let words = same_words c.args.words.now in
    let none = c.in-Ok-try_get_matches_from.ensures.kinds (ap is_simple_and_free app ∙ free) in
    let read = (c.in-Ok-try_get_matches_from.ensures.matches (ap is_simple app ∙ simple)).0 in
    (ap (λ (ks : List _). length ks == 0) (sym (ap₂ fault_of app words) ∙ none), read ∙ ap₂ matches_of app words)

among_some : (k : ErrorKind) (ks : List ErrorKind) → IsAmong k ks → (length ks == 0) ≡ false
among_some k [] h = absurd h
among_some k (x ∷ xs) h = grind arith

refused : (e : Error) (ks : List ErrorKind) → HasKind ks e → (kind_of e ≡ OutOfMemory → ⊥) → (length ks == 0) ≡ false
refused e ks (inl is) ne = absurd (ne is)
refused e ks (inr among) ne = among_some (kind_of e) ks among

pub returns : goal.returns
unfolding is_accepted
returns c =
    let app = c.in-Ok.ensures in
    let words = same_words c.args.words.now in
    let kinds = c.in-Err.ensures.kinds (ap is_simple_and_free app ∙ free) in
    let other : kind_of c.in-Err.error ≡ OutOfMemory → ⊥ = λ e. c.in_default-kind.not-OutOfMemory (c.kind.ensures ∙ e) in
    record {
      ok = tt;
      usage =
          λ u e. ap (λ (ks : List ErrorKind). length ks == 0) (sym (ap₂ fault_of app words)) ∙ refused c.in-Err.error _ kinds other;
    }
