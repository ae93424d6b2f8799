use Rattle.std.proofs.Common.{◌≡◌, ℕ, ◌<◌, length, get_or}
use Rattle.mr_hash.specs.Slots.{slot_of, word_of}
use Rattle.std.specs.declared.cmp.Ordering.TheVariants.{Equal}
use Rattle.mr_hash.proofs.table.Table.search.Given as goal

-- no slot before tells the place of an entry of this key
abbrev pub invariant-loop-distance : goal.invariant-loop-distance
invariant-loop-distance g l =
    (nearer place : ℕ) → nearer < l.distance
    → get_or l.self.index.items (slot_of (length l.self.index.items) l.self.shift l.code nearer) 0
    ≡ word_of (length l.self.index.items) l.code place → place < length l.self.entries.items
    → (e : _) → g.K.Ord.cmp l.key (get_or l.self.entries.items place e).key ≡ Equal → ⊥
