use Rattle.command_words.proofs.WidthReads.{read_of}
use Rattle.command_words.proofs.word_reader.widths_from.Goals as goal

pub returns : goal.returns
returns c =
    read_of c.args.text.now c.in_ok-metric.metric c.in_ok-tag_key.tag_key c.in_ok-tag_value.tag_value c.if-text-ne5.false c.if-text-ne44.false c.if-text-ne44-2.false
    c.in_ok-metric.ensures c.in_ok-tag_key.ensures c.in_ok-tag_value.ensures c.make.result c.make.ensures
