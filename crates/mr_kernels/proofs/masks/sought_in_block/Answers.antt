use Rattle.std.proofs.Common.{map, take, drop, ap, sym, ◌∙◌, ◌==◌, ◌||◌}
use Rattle.std.specs.Simd.Lanes.{mask_l}
use Rattle.std.proofs.lemmas.Simd.{length-chunk}
use Rattle.mr_items.specs.Words.{is_word_byte}
use Rattle.mr_kernels.specs.Scan.{is_target}
use Rattle.mr_kernels.proofs.Blocks.{others, not_blank}
use Rattle.mr_kernels.proofs.masks.sought_in_block.Goals as goal

pub returns-in-WordByte : goal.returns-in-WordByte
returns-in-WordByte c = c.words_in_block.ensures
    ∙ ap (λ target. mask_l (map (is_target target) (take 64 (drop c.args.at c.args.bytes.now)))) (sym c.in-WordByte.is)

pub returns-in-OtherByte : goal.returns-in-OtherByte
returns-in-OtherByte c =
    let block = take 64 (drop c.args.at c.args.bytes.now) in
    others is_word_byte block c.words_in_block-in-OtherByte.result
    (length-chunk c.args.at 64 c.args.bytes.now c.requires) c.words_in_block-in-OtherByte.ensures
    ∙ ap (λ target. mask_l (map (is_target target) block)) (sym c.in-OtherByte.is)

pub returns-in-FieldByte : goal.returns-in-FieldByte
returns-in-FieldByte c =
    let block = take 64 (drop c.args.at c.args.bytes.now) in
    others (λ b. (b == 32) || (b == 9)) block c.blanks_in_block.result
    (length-chunk c.args.at 64 c.args.bytes.now c.requires) c.blanks_in_block.ensures
    ∙ ap mask_l (not_blank block)
    ∙ ap (λ target. mask_l (map (is_target target) block)) (sym c.in-FieldByte.is)
