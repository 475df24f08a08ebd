use Rattle.std.proofs.Common.{arith}
use Rattle.cell_listing.proofs.PrintedWords.{word_end, word_on}
use Rattle.cell_listing.proofs.listing_text.push_word.Goals as goal

pub loop-b-preserved : goal.loop-b-preserved
loop-b-preserved c = word_on c.loop-b.text.items c.push_byte.new.text.items _ c.args.bytes.now c.loop-b.b-index c.loop-b-test.true c.loop-b.invariant c.in_ok-push_byte.ensures

pub returns : goal.returns
returns c = word_end c.loop-b.text.items _ c.args.bytes.now c.loop-b.b-index (let end = c.loop-b-test.false in omega (arith, end)) c.loop-b.invariant
