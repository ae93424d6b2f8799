-- What the lines of a piece have emitted, up to a place.
use Rattle.std.proofs.Common.{◌≡◌, ℕ, ◌+◌, ◌<◌, ◌≤◌, min, true, List, ◌++◌, length, sym, ap, subst, ◌∙◌, arith}
use Rattle.mr_defs.specs.Tasks.{task_emissions}
use Rattle.mr_items.specs.Lines.{begins_line, is_line_boundary, line_places}
use Rattle.mr_kernels.specs.Scan.{line_end_in}
use Rattle.mr_text.specs.Sent.{Sent, SentSome}
use Rattle.mr_text.proofs.Sending.{sent_next, some_next, some_more}
use Rattle.mr_lines.proofs.Emitted.{emitted-append}
use Rattle.mr_lines.proofs.NextLine.{next, next_later, next_inside, emits_line}

module _ {S E : Type 0} (stands : S → List E → Type 0) (emits : ℕ → List E) (bs : List ℕ) (start : ℕ) where
  abbrev pub upto : ℕ → List E
  upto at = task_emissions emits (line_places bs) (start, at)

  -- some of what is emitted up to a place is some of the whole
  pub some_whole : (old new : S) (at stop : ℕ) → start ≤ at → at ≤ stop → stop ≤ length bs → SentSome stands old new (upto at)
      → SentSome stands old new (upto stop)
  some_whole old new at stop after before inside some =
      subst (SentSome stands old new) (emitted-append emits (begins_line bs) (length bs) start at stop after before inside)
      (some_more stands old new (upto at) (task_emissions emits (line_places bs) (at, stop)) some)

  -- one line more
  module _ (old mid new : S) (at : ℕ) (left : List E) (so_far : Sent stands old mid (upto at) left) (after : start ≤ at)
      (below : at < length bs) (starts : is_line_boundary bs at ≡ true) (end : ℕ) (end_is : end ≡ line_end_in bs at) where
    one_more : upto at ++ emits at ≡ upto (min (end + 1) (length bs))
    one_more =
        ap (λ l. upto at ++ l) (sym (emits_line bs at below starts end end_is emits))
        ∙ emitted-append emits (begins_line bs) (length bs) start at (min (end + 1) (length bs)) after
        (let h = next_later bs at below starts end end_is in omega (arith, h)) (next_inside bs at below starts end end_is)

    pub line_sent : (rest : List E) → Sent stands mid new (left ++ emits at) rest
        → Sent stands old new (upto (min (end + 1) (length bs))) rest
    line_sent rest next =
        subst (λ all. Sent stands old new all rest) one_more (sent_next stands old mid (upto at) left so_far new (emits at) rest next)

    pub line_some : SentSome stands mid new (left ++ emits at) → SentSome stands old new (upto (min (end + 1) (length bs)))
    line_some some = subst (SentSome stands old new) one_more (some_next stands old mid (upto at) left so_far new (emits at) some)
