-- A content that is taken read by read.
use Rattle.std.proofs.Common.{◌≡◌, ℕ, ◌+◌, ◌≤◌, List, ◌++◌, length, take, drop, Some, None, true, is_some, refl, ◌∙◌, sym, ap}
use Rattle.std.proofs.Math.Seq.{take-add, take-length}
use Rattle.std.proofs.lemmas.List.{length-take-le, length-append}
use Rattle.std.specs.declared.option.Option.{Option}
use Rattle.mr_outside.specs.Shelf.{Gives, IsTold, IsMissing, HasContent}

-- the bytes taken are a front of this content
pub record IsFront (taken content : List ℕ) : Type 0 where
  pub within : length taken ≤ length content
  pub front : taken ≡ take (length taken) content

-- where a content is told, contents are
pub is_told_by : (contents : Option (List ℕ → Option (List ℕ))) (name content : List ℕ)
    → IsTold contents name content → is_some contents ≡ true
is_told_by None name content told = absurd told
is_told_by (Some of) name content told = refl

-- what a read gives makes the front longer
pub more_taken : (taken more buf content : List ℕ) (n : ℕ) → n ≤ length buf → more ≡ taken ++ take n buf
    → IsFront taken content → Gives content (length taken) n buf → IsFront more content
more_taken taken more buf content n fits joined front gives =
    let size : length more ≡ length taken + n =
    ap length joined ∙ length-append taken (take n buf) ∙ ap (λ k. length taken + k) (length-take-le n buf fits) in
    let whole : take (length taken + n) content ≡ more =
    take-add (length taken) n content ∙ ap (λ t. t ++ take n (drop (length taken) content)) (sym front.front)
    ∙ ap (λ t. taken ++ t) (sym gives.bytes) ∙ sym joined in
    record { within = rw size gives.inside; front = sym (ap (λ k. take k content) size ∙ whole) }

-- a front as long as the content is all of it
pub all_taken : (taken content : List ℕ) → IsFront taken content → length taken ≡ length content → taken ≡ content
all_taken taken content front same = front.front ∙ ap (λ k. take k content) same ∙ take-length content

-- the same by what is found under the name
has_some : (of : List ℕ → Option (List ℕ)) (name : List ℕ) (P : List ℕ → Type 0) (found : Option (List ℕ))
    → of name ≡ found → (found ≡ None → ⊥) → ((content : List ℕ) → found ≡ Some content → P content)
    → (content : List ℕ) × (of name ≡ Some content) × P content
has_some of name P None is there each = absurd (there refl)
has_some of name P (Some content) is there each = (content, is, each content refl)

-- a name that is not missing has a content
pub has_content : (contents : Option (List ℕ → Option (List ℕ))) (name : List ℕ) (P : List ℕ → Type 0)
    → (IsMissing contents name → ⊥) → ((content : List ℕ) → IsTold contents name content → P content)
    → HasContent contents name P
has_content None name P there each = tt
has_content (Some of) name P there each = has_some of name P (of name) refl there each
