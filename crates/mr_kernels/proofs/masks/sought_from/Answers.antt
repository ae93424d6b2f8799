use Rattle.std.proofs.Common.{drop, map, ap, sym, ◌∙◌, arith}
use Rattle.std.specs.Simd.Lanes.{mask_l}
use Rattle.std.proofs.lemmas.List.{take_all, length-drop}
use Rattle.mr_kernels.specs.Scan.{is_target}
use Rattle.mr_kernels.proofs.masks.sought_from.Goals as goal

pub returns-else-bytes-at-ge64 : goal.returns-else-bytes-at-ge64
returns-else-bytes-at-ge64 c =
    let rest = drop c.args.at c.args.bytes.now in
    c.sought_in_rest.ensures
    ∙ ap (λ xs. mask_l (map (is_target c.args.target) xs))
    (sym (take_all 64 rest (omega (arith, length-drop c.args.at c.args.bytes.now, c.if-bytes-at-ge64.false))))
