use Rattle.mr_text.specs.Keyed.{word_emits}
use Rattle.mr_text.proofs.Whole.{whole_words, word_pieces}
use Rattle.mr_text.proofs.slice_words.SliceWords.over.Goals as goal

pub invariant_of-result : goal.invariant_of-result
invariant_of-result g c = record {
  of_text = c.requires.text;
  are = word_pieces c.args.input.now c.args.pieces.now c.requires.pieces;
}

pub returns-clause-whole : goal.returns-clause-whole
returns-clause-whole g c = whole_words c.args.input.now c.args.pieces.now c.requires.pieces
    (word_emits (g.J.WordJob.pair_of c.args.job) c.args.input.now)
