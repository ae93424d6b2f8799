-- A generated text is short.
use Rattle.std.proofs.Common.{ℕ, ◌*◌, ◌%◌, ◌<◌, ◌≤◌, [], ◌∷◌, length, decimal, sym, subst, arith}
use Rattle.std.specs.Prelude.{zero, suc}
use Rattle.std.specs.List.{flat_map}
use Rattle.std.proofs.lemmas.Fmt.{length-decimal-le}
use Rattle.std.proofs.lemmas.List.{length-append}
use Rattle.rand_core.specs.Steps.{first_words}
use Rattle.rand_xoshiro.specs.SplitMix64.{mix_u64}
use Rattle.mr_defs.specs.Limits.{input_limit}
use Rattle.mr_command.specs.Form.{words_most}
use Rattle.mr_items.specs.Generator.{generated, word_of}

below : (x : ℕ) → x % 5000 < 5000
below x = omega arith

word_short : (x : ℕ) → length (word_of x) ≤ 6
word_short x =
    subst (λ n. n ≤ 6) (sym (length-append (119 ∷ decimal (x % 5000)) (10 ∷ [])))
    (omega (arith, length-decimal-le 4 (x % 5000) (omega arith) (omega (arith, below x)) (omega (arith, below x))))

words_short : {S : Type 0} (step : S → ℕ × S) (k : ℕ) (s : S) → length (flat_map word_of (first_words step k s)) ≤ k * 6
unfolding first_words
words_short step zero s = omega arith
words_short step (suc k) s =
    subst (λ n. n ≤ suc k * 6) (sym (length-append (word_of (step s).0) (flat_map word_of (first_words step k (step s).1))))
    (omega (arith, word_short (step s).0, words_short step k (step s).1))

pub generated_short : (seed count : ℕ) → count ≤ words_most → length (generated seed count) ≤ input_limit
unfolding generated
generated_short seed count h = omega (arith, h, words_short mix_u64 count seed)
