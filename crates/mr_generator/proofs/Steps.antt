-- One word more of a generated text, and one byte more of a mark.
use Rattle.std.proofs.Common.{◌≡◌, ℕ, suc, ◌+◌, ◌-◌, ◌*◌, ◌%◌, List, [], ◌∷◌, ◌++◌, length, get_or, sym, ap, ◌∙◌, arith, append_assoc}
use Rattle.std.proofs.Common.{append-nil}
use Rattle.std.specs.Prelude.{flat_map, sum_by, decimal}
use Rattle.std.specs.List.{enumerate_from}
use Rattle.std.proofs.lemmas.List.FromFn.{map-range_with_len_more, get_or-map-range_with_len, length-map-range_with_len}
use Rattle.rand_core.specs.Steps.{first_words}
use Rattle.rand_xoshiro.specs.SplitMix64.{mix_u64}
use Rattle.mr_items.specs.Generator.{word_of, generated}
use Rattle.mr_items.specs.Texts.{line}
use Rattle.mr_generator.specs.Words.{words_below}

pub words_more : (words after : List (List ℕ)) (n : ℕ) (word : List ℕ) → words ≡ words_below n → word ≡ word_of n
    → after ≡ words ++ word ∷ [] → after ≡ words_below (n + 1)
unfolding words_below
words_more words after n word so_far is grown =
    grown ∙ (λ i. so_far i ++ is i ∷ []) ∙ sym (map-range_with_len_more word_of 0 n n (omega arith))

pub words_none : (words : List (List ℕ)) → words ≡ [] → words ≡ words_below 0
unfolding words_below
words_none words none = none

pub words_length : (words : List (List ℕ)) (n : ℕ) → words ≡ words_below n → length words ≡ n
unfolding words_below
words_length words n all = ap length all ∙ length-map-range_with_len word_of 0 n

pub word_at : (words : List (List ℕ)) (x : ℕ) (d : List ℕ) → words ≡ words_below 5000 → get_or words (x % 5000) d ≡ word_of x
unfolding words_below
word_at words x d all =
    ap (λ l. get_or l (x % 5000) d) all
    ∙ get_or-map-range_with_len word_of 0 5000 (x % 5000) (x % 5000) d (omega arith) (omega arith)
    ∙ ap (λ n. line (119 ∷ decimal n)) twice
  where
    twice : x % 5000 % 5000 ≡ x % 5000
    twice = omega arith

-- so many words from this state on
abbrev pub words_from : ℕ → ℕ → List ℕ
words_from n state = flat_map word_of (first_words mix_u64 n state)

pub words_step : (text after : List ℕ) (n m state output next : ℕ) → n ≡ suc m → (output, next) ≡ mix_u64 state
    → after ≡ text ++ word_of output
    → after ++ words_from m next ≡ text ++ words_from n state
unfolding first_words
words_step text after n m state output next e step grown =
    ap (λ a. a ++ words_from m next) grown
    ∙ append_assoc text (word_of output) (words_from m next)
    ∙ ap (λ (p : ℕ × ℕ). text ++ (word_of p.0 ++ words_from m p.1)) step
    ∙ ap (λ k. text ++ words_from k state) (sym e)

pub words_first : (text : List ℕ) (count seed state : ℕ) → text ≡ [] → state ≡ seed
    → text ++ words_from (count - 0) state ≡ generated seed count
unfolding generated
words_first text count seed state none same =
    ap (λ t. t ++ words_from (count - 0) state) none ∙ ap (λ k. words_from k state) all ∙ ap (words_from count) same
  where
    all : count - 0 ≡ count
    all = omega arith

pub words_last : (text all : List ℕ) (n state : ℕ) → n ≡ 0 → text ++ words_from n state ≡ all → text ≡ all
unfolding first_words
words_last text all n state none whole = sym (append-nil text) ∙ ap (λ k. text ++ words_from k state) (sym none) ∙ whole

-- the bytes from a place on, each times its place
abbrev pub mark_from : ℕ → List ℕ → ℕ
mark_from place text = sum_by (λ e. e.0 * e.1) (enumerate_from place text)
