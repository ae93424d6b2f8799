-- The entries of a shelf in memory by index and by name.
use Rattle.std.proofs.Common.{cond, Bool, false, true, ◌++◌, length-append, ◌≡◌, ◌≤◌, ◌<◌, ◌+◌, ◌-◌, ℕ, zero, suc, List, [], ◌∷◌, length}
use Rattle.std.proofs.Common.{take, drop, Some, None, get_or, refl, sym, ◌∙◌, ap, arith}
use Rattle.std.specs.Prelude.{slice_get, replicate}
use Rattle.std.specs.Str.{bytes_eq}
use Rattle.std.specs.declared.option.Option.{Option}
use Rattle.std.proofs.lemmas.Simd.{length-replicate}
use Rattle.std.proofs.lemmas.List.{drop-replicate, length-take-le, take_at, take-replicate}
use Rattle.mr_outside.specs.declared.memory_shelf.Entry.{Entry}
use Rattle.mr_outside.specs.Entry.{content_of, contents_of, name_at, IsAt}
use Rattle.mr_outside.specs.MemoryShelf.{told, repeated}

-- the content of an entry of this name is told from there on
pub told_here : (entries : List Entry) (k : ℕ) (entry : Entry) (name : List ℕ) → k < length entries
    → entry ≡ get_or entries k entry → bytes_eq entry.name name ≡ true
    → told (contents_of (drop k entries)) name ≡ Some (content_of entry.body)
told_here [] k entry name inside is same = absurd (omega arith)
told_here (x ∷ entries) zero entry name inside is same = rw (← is, same) refl
told_here (x ∷ entries) (suc k) entry name inside is same = told_here entries k entry name (omega arith) is same

-- an entry that was read by its index
pub got_here : (entries : List Entry) (k : ℕ) (entry : Entry) → k < length entries
    → entry ≡ get_or entries k entry → slice_get entries k ≡ Some entry
got_here [] k entry inside is = absurd (omega arith)
got_here (x ∷ entries) zero entry inside is = ap Some (sym is)
got_here (x ∷ entries) (suc k) entry inside is = got_here entries k entry (omega arith) is

-- how long a repeated byte is, and what a part of it is
pub length-repeated : (byte count : ℕ) → length (repeated byte count) ≡ count
unfolding repeated
length-repeated byte count = length-replicate count byte

pub repeated_part : (byte count place n : ℕ) → place + n ≤ count
    → take n (drop place (repeated byte count)) ≡ replicate n byte
unfolding repeated
repeated_part byte count place n inside = rw drop-replicate (take-replicate n (count - place) byte (omega arith))

-- a buffer whose front was filled
pub front_filled : (filled rest old : List ℕ) (byte n : ℕ) → n ≤ length old
    → filled ≡ replicate (length (take n old)) byte → take n (filled ++ rest) ≡ replicate n byte
front_filled filled rest old byte n fits is =
    let size : length (take n old) ≡ n = length-take-le n old fits in
    let same : filled ≡ replicate n byte = is ∙ ap (λ k. replicate k byte) size in
    take_at filled rest n (ap length same ∙ length-replicate n byte) ∙ same

-- one entry more is one content more
pub contents_of-push : (entries : List Entry) (entry : Entry)
    → contents_of (entries ++ entry ∷ []) ≡ contents_of entries ++ (entry.name, content_of entry.body) ∷ []
contents_of-push [] entry = refl
contents_of-push (x ∷ entries) entry = ap (λ rest. (x.name, content_of x.body) ∷ rest) (contents_of-push entries entry)

-- the entries before the last are as they were
slice_get-push : (entries : List Entry) (entry : Entry) (k : ℕ) → k < length entries
    → slice_get (entries ++ entry ∷ []) k ≡ slice_get entries k
slice_get-push [] entry k inside = absurd (omega arith)
slice_get-push (x ∷ entries) entry zero inside = refl
slice_get-push (x ∷ entries) entry (suc k) inside = slice_get-push entries entry k (omega arith)

-- the choice of the first, where what comes after it is told still
told_first : (b : Bool) (x y z : Option (List ℕ)) (content : List ℕ) → (y ≡ Some content → z ≡ Some content)
    → cond b x y ≡ Some content → cond b x z ≡ Some content
told_first true x y z content later is = is
told_first false x y z content later is = later is

-- what was told is told still
told-push : (contents : List (List ℕ × List ℕ)) (more : List ℕ × List ℕ) (name content : List ℕ)
    → told contents name ≡ Some content → told (contents ++ more ∷ []) name ≡ Some content
told-push [] more name content is = cc
told-push (x ∷ contents) more name content is =
    let later = told-push contents more name content in
    told_first (bytes_eq x.0 name) (Some x.1) (told contents name) (told (contents ++ more ∷ []) name) content later is

-- what is started stays so under one entry more
pub IsAt-push : (entries : List Entry) (entry : Entry) (at : Option ℕ) (place : ℕ) → IsAt entries at place
    → IsAt (entries ++ entry ∷ []) at place
IsAt-push entries entry at place here = record {
  inside = λ k is.
      let before : k < length entries = here.inside k is in
      let more : length (entries ++ entry ∷ []) ≡ length entries + 1 = length-append entries (entry ∷ []) in
      omega arith;
  short = λ k x is got. here.short k x is (sym (slice_get-push entries entry k (here.inside k is)) ∙ got);
  first = λ k x is got.
      let before = here.first k x is (sym (slice_get-push entries entry k (here.inside k is)) ∙ got) in
      rw (contents_of-push entries entry)
      (told-push (contents_of entries) (entry.name, content_of entry.body) x.name (content_of x.body) before);
}

-- the started name is as before under one entry more
pub name_at-push : (entries : List Entry) (entry : Entry) (at : Option ℕ) (place : ℕ) → IsAt entries at place
    → name_at (entries ++ entry ∷ []) at ≡ name_at entries at
name_at-push entries entry None place here = refl
name_at-push entries entry (Some k) place here = rw (slice_get-push entries entry k (here.inside k refl)) refl
