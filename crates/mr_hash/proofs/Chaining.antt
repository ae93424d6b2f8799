-- Chains as they are made, from the last entry on.
use Rattle.std.proofs.Common.{◌≡◌, ◌≢◌, ℕ, ◌+◌, ◌%◌, ◌<◌, ◌≤◌, List, [], length, get_or, set, replicate, sym, ap, subst, ◌∙◌, arith}
use Rattle.std.proofs.lemmas.List.{get_or-replicate, get_or-set_same, get_or-set_other, length-replicate, length-set}
use Rattle.mr_hash.specs.Chaining.{IsChained}
use Rattle.mr_hash.proofs.Indexing.{same_or}

-- no heads tell nothing
pub no_heads : (heads links buckets : List ℕ) → heads ≡ [] → IsChained heads links buckets
no_heads heads links buckets none = record {
  first = λ part place p. absurd (omega (arith, p, ap length none));
  next = λ place between s. absurd (omega (arith, s, ap length none));
  later = λ place s. absurd (omega (arith, s, ap length none));
}

-- the entries from one on are chained
pub record IsChainedFrom (at parts : ℕ) (heads links buckets : List ℕ) : Type 0 where
  pub long_heads : length heads ≡ parts
  pub long_links : length links ≡ length buckets
  pub inside : at ≤ length buckets
  pub beyond : (part : ℕ) → part < parts → at ≤ get_or heads part 0
  pub first : (part place : ℕ) → part < parts → at ≤ place → place < length buckets → place < get_or heads part 0
      → get_or buckets place 0 % parts ≢ part
  pub next : (place between : ℕ) → at ≤ place → place < length buckets → place < between → between < length buckets
      → between < get_or links place 0
      → get_or buckets between 0 % parts ≢ get_or buckets place 0 % parts
  pub later : (place : ℕ) → at ≤ place → place < length buckets → place < get_or links place 0

pub chained_none : (parts far : ℕ) (heads links buckets : List ℕ) → heads ≡ replicate parts far → length links ≡ length buckets
    → length buckets ≤ far → IsChainedFrom (length buckets) parts heads links buckets
chained_none parts far heads links buckets e long fits = record {
  long_heads = ap length e ∙ length-replicate {A = ℕ} parts far;
  long_links = long;
  inside = omega arith;
  beyond = λ p l. omega (arith, ap (λ h. get_or h p 0) e, get_or-replicate {A = ℕ} parts p far 0 l, fits);
  first = λ p place l a b. absurd (omega (arith, a, b));
  next = λ place between a l. absurd (omega (arith, a, l));
  later = λ place a l. absurd (omega (arith, a, l));
}

pub all_chained : (parts : ℕ) (heads links buckets : List ℕ) → IsChainedFrom 0 parts heads links buckets → IsChained heads links buckets
all_chained parts heads links buckets was = record {
  first = λ part place p q h. subst (λ n. get_or buckets place 0 % n ≢ part) (sym was.long_heads)
      (was.first part place (omega (arith, p, was.long_heads)) (omega arith) q h);
  next = λ place between s p q r h. subst (λ n. get_or buckets between 0 % n ≢ get_or buckets place 0 % n) (sym was.long_heads)
      (was.next place between (omega arith) (omega (arith, p, was.long_links)) q r h);
  later = λ place s p. was.later place (omega arith) (omega (arith, p, was.long_links));
}

module _ (at parts part : ℕ) (heads links buckets : List ℕ) (was : IsChainedFrom (at + 1) parts heads links buckets)
    (own : get_or buckets at 0 % parts ≡ part) (some : part < parts) where
  within : at < length links
  within = omega (arith, was.long_links, was.inside)

  here : (place : ℕ) → place ≡ at → get_or (set links at (get_or heads part 0)) place 0 ≡ get_or heads part 0
  here place e = ap (λ n. get_or (set links at (get_or heads part 0)) n 0) e ∙ get_or-set_same links at (get_or heads part 0) 0 within

  there : (place : ℕ) → place ≢ at → get_or (set links at (get_or heads part 0)) place 0 ≡ get_or links place 0
  there place e = get_or-set_other links at place (get_or heads part 0) 0 e

  head : (p : ℕ) → p ≡ part → get_or (set heads part at) p 0 ≡ at
  head p e = ap (λ n. get_or (set heads part at) n 0) e ∙ get_or-set_same heads part at 0 (omega (arith, some, was.long_heads))

  -- the entry before those is chained too
  pub chained_more : IsChainedFrom at parts (set heads part at) (set links at (get_or heads part 0)) buckets
  chained_more = record {
    long_heads = length-set heads part at ∙ was.long_heads;
    long_links = length-set links at (get_or heads part 0) ∙ was.long_links;
    inside = omega (arith, was.inside);
    beyond = λ p l. same_or p part
        (λ e. omega (arith, head p e))
        (λ e. omega (arith, get_or-set_other heads part p at 0 e, was.beyond p l));
    first = λ p place l a b h. same_or p part
        (λ e. absurd (omega (arith, head p e, a, h)))
        (λ e. same_or place at
        (λ is same. e (sym same ∙ ap (λ n. get_or buckets n 0 % parts) is ∙ own))
        (λ other. was.first p place l (omega (arith, a, other)) b (omega (arith, h, get_or-set_other heads part p at 0 e))));
    next = λ place between a l m b h. same_or place at
        (λ is. subst (λ n. get_or buckets between 0 % parts ≢ get_or buckets n 0 % parts) (sym is)
        (subst (λ n. get_or buckets between 0 % parts ≢ n) (sym own)
        (was.first part between some (omega (arith, m, is)) b (omega (arith, h, here place is)))))
        (λ other. was.next place between (omega (arith, a, other)) l m b (omega (arith, h, there place other)));
    later = λ place a l. same_or place at
        (λ is. omega (arith, here place is, was.beyond part some, is))
        (λ other. omega (arith, there place other, was.later place (omega (arith, a, other)) l));
  }
