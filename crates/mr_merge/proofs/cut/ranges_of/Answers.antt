use Rattle.std.proofs.Common.{refl, sym, subst}
use Rattle.std.specs.Prelude.{All}
use Rattle.std.proofs.lemmas.List.Elements.{All-nil, All-push}
use Rattle.mr_merge.specs.Lists.{lent, lists_of}
use Rattle.mr_merge.specs.Plans.{IsCutOff}
use Rattle.mr_merge.specs.Rising.{Rises, rank}
use Rattle.mr_merge.proofs.Cuts.{cuts_start, cuts_on, cut_all, rise_lent}
use Rattle.mr_merge.proofs.cut.ranges_of.Goals as goal

pub loop-row-init : goal.loop-row-init
loop-row-init g c = record {
  next = tt;
  finite = tt;
  cuts = cuts_start (rank g.K.Ord.cmp) (lists_of c.args.lists.now)
      (lent c.in_ok-rest.rest.items) c.in_ok-ranges.ranges.items c.in_ok-rest.ensures c.in_ok-ranges.ensures.items;
  rest = rise_lent (rank g.K.Ord.cmp) c.args.lists.now c.in_ok-rest.rest.items c.in_ok-rest.ensures c.requires;
  rise = subst (All (λ r. All (λ l. Rises (rank g.K.Ord.cmp) l.now) r.items)) (sym c.in_ok-ranges.ensures.items)
      (All-nil (λ r. All (λ l. Rises (rank g.K.Ord.cmp) l.now) r.items));
}

pub loop-row-preserved : goal.loop-row-preserved
loop-row-preserved g c = record {
  next = tt;
  finite = tt;
  cuts = cuts_on (rank g.K.Ord.cmp) (lists_of c.args.lists.now) (lent c.loop-row.rest.items) (lent c.in_ok-fronts.fronts.items)
      (lent c.in_ok-fronts.backs.items) c.loop-row.ranges.items c.push.new.self.items c.in_ok-fronts.fronts refl c.in_ok-push.ensures.items
      c.loop-row.invariant.cuts
      (subst (λ l. IsCutOff (rank g.K.Ord.cmp) (lent l) (lent c.in_ok-fronts.fronts.items)
      (lent c.in_ok-fronts.backs.items)) c.deref-in-loop-row.ensures.value c.in_ok-fronts.ensures.cut);
  rest = c.in_ok-fronts.ensures.backs;
  rise = subst (All (λ r. All (λ l. Rises (rank g.K.Ord.cmp) l.now) r.items)) (sym c.in_ok-push.ensures.items)
      (All-push
      (λ r. All
      (λ l. Rises
      (rank g.K.Ord.cmp) l.now) r.items) c.loop-row.ranges.items c.in_ok-fronts.fronts c.loop-row.invariant.rise
      c.in_ok-fronts.ensures.fronts);
}

pub returns-clause-cut : goal.returns-clause-cut
returns-clause-cut g c = cut_all (rank g.K.Ord.cmp) (lists_of c.args.lists.now)
    (lent c.loop-row.rest.items) c.loop-row.ranges.items c.push-2.new.self.items c.loop-row.rest refl c.in_ok-push-2.ensures.items
    c.loop-row.invariant.cuts

pub returns-clause-rise : goal.returns-clause-rise
returns-clause-rise g c =
    subst (All (λ r. All (λ l. Rises (rank g.K.Ord.cmp) l.now) r.items)) (sym c.in_ok-push-2.ensures.items)
    (All-push
    (λ r. All
    (λ l. Rises
    (rank g.K.Ord.cmp) l.now) r.items) c.loop-row.ranges.items c.loop-row.rest c.loop-row.invariant.rise c.loop-row.invariant.rest)
