use Rattle.std.proofs.Common.{Bool, List, ℕ, ◌≡◌, ◌++◌, ◌∙◌, ap, arith, false, rules, subst, sym, take, true}
use Rattle.std.specs.Prelude.{Ok}
use Rattle.std.proofs.lemmas.Result.{err_from_is_err_and}
use Rattle.line_stream.specs.LineReadings.{Reading}
use Rattle.line_stream.specs.Reads.{NextLineIs, SkipsLine, with_bytes}
use Rattle.line_stream.specs.declared.reader.NextLine.{NextLine}
use Rattle.line_stream.specs.declared.reader.NextLine.TheVariants.{Last, TooLong, Whole}
use Rattle.cell_listing.specs.Grammar.{last_read, line_read}
use Rattle.cell_listing.specs.ListedLines.{ListingRead, with_line}
use Rattle.cell_listing.specs.ListingReads.{ReadsListing}
use Rattle.cell_listing.proofs.ListingTurns.{HasRead, ended, found, long_last, long_on, no_memory, not_found, not_skipped, short_on, shorter, skipped, skipped_most}
use Rattle.cell_listing.proofs.listing_reader.read_listing.Goals as goal

pub returns-in_err-end-clause-reads : goal.returns-in_err-end-clause-reads
returns-in_err-end-clause-reads g c =
    let s = g.S.Source in
    let p = err_from_is_err_and c.from_residual-in_err-end.result c.from_residual-in_err-end.ensures.1 in
    rw (p.1, p.2) (not_found c.args.widths (s.taken c.args.source.now) (s.taken c.loop-listed.source) (s.taken c.next_line.new.source) (s.left c.args.source.now) (s.left c.loop-listed.source) (s.left c.next_line.new.source) c.loop-listed.listed c.loop-listed.reader c.next_line.new.self c.loop-listed.invariant.read c.in_err-end.field-0.0 c.in_err-end.ensures.next)

pub returns-in_err-add-in-Whole-clause-reads : goal.returns-in_err-add-in-Whole-clause-reads
returns-in_err-add-in-Whole-clause-reads g c =
    let s = g.S.Source in
    let n = subst (λ (line : NextLine). NextLineIs (s.taken c.loop-listed.source) (s.taken c.next_line.new.source) (s.left c.loop-listed.source) (s.left c.next_line.new.source) c.loop-listed.reader (Ok line) c.next_line.new.self) c.in-Whole.is c.in_ok-end.ensures.next in
    let f = found c.args.widths (s.taken c.args.source.now) (s.taken c.loop-listed.source) (s.taken c.next_line.new.source) (s.left c.args.source.now) (s.left c.loop-listed.source) (s.left c.next_line.new.source) c.loop-listed.listed c.loop-listed.reader c.next_line.new.self c.loop-listed.invariant.read (Whole c.in-Whole.end) n in
    let p = err_from_is_err_and c.from_residual-in_err-add-in-Whole.result c.from_residual-in_err-add-in-Whole.ensures.1 in
    rw (p.1, p.2) (no_memory c.args.widths (s.taken c.args.source.now) (s.taken c.next_line.new.source) (s.left c.args.source.now) (s.left c.next_line.new.source) c.loop-listed.listed c.next_line.new.self f.0)

pub loop-listed-preserved-in-Whole : goal.loop-listed-preserved-in-Whole
loop-listed-preserved-in-Whole g c =
    let s = g.S.Source in
    let n = subst (λ (line : NextLine). NextLineIs (s.taken c.loop-listed.source) (s.taken c.next_line.new.source) (s.left c.loop-listed.source) (s.left c.next_line.new.source) c.loop-listed.reader (Ok line) c.next_line.new.self) c.in-Whole.is c.in_ok-end.ensures.next in
    let f = found c.args.widths (s.taken c.args.source.now) (s.taken c.loop-listed.source) (s.taken c.next_line.new.source) (s.left c.args.source.now) (s.left c.loop-listed.source) (s.left c.next_line.new.source) c.loop-listed.listed c.loop-listed.reader c.next_line.new.self c.loop-listed.invariant.read (Whole c.in-Whole.end) n in
    let one = short_on c.args.widths (s.taken c.args.source.now) (s.taken c.next_line.new.source) (s.left c.args.source.now) (s.left c.next_line.new.source) c.loop-listed.listed c.next_line.new.self f.0 c.in-Whole.end f.1 in
    let added = c.in_ok-add-in-Whole.ensures.ok ∙ ap (λ (xs : List ℕ). with_line c.loop-listed.listed (line_read (take c.in-Whole.end xs))) c.bytes.ensures in
    let used = c.skip_line.ensures in
    let taken = ap (λ (r : Reading). r.taken) used in
    let most = f.2 in
    let was = c.loop-listed.invariant.later in
    let now = c.next_line.ensures.later in
    record {
      read = subst (λ (p : ListingRead × Reading). HasRead c.args.widths (s.taken c.args.source.now) (s.taken c.next_line.new.source) (s.left c.args.source.now) (s.left c.next_line.new.source) p.0 p.1) (λ i. (sym added i, sym used i)) one;
      most = omega (arith, taken, most);
      later = omega (arith, was, now);
    }

pub returns-in_err-ended-in-TooLong-clause-reads : goal.returns-in_err-ended-in-TooLong-clause-reads
returns-in_err-ended-in-TooLong-clause-reads g c =
    let s = g.S.Source in
    let n = subst (λ (line : NextLine). NextLineIs (s.taken c.loop-listed.source) (s.taken c.next_line.new.source) (s.left c.loop-listed.source) (s.left c.next_line.new.source) c.loop-listed.reader (Ok line) c.next_line.new.self) c.in-TooLong.is c.in_ok-end.ensures.next in
    let f = found c.args.widths (s.taken c.args.source.now) (s.taken c.loop-listed.source) (s.taken c.next_line.new.source) (s.left c.args.source.now) (s.left c.loop-listed.source) (s.left c.next_line.new.source) c.loop-listed.listed c.loop-listed.reader c.next_line.new.self c.loop-listed.invariant.read TooLong n in
    let p = err_from_is_err_and c.from_residual-in_err-ended-in-TooLong.result c.from_residual-in_err-ended-in-TooLong.ensures.1 in
    rw (p.1, p.2) (not_skipped c.args.widths (s.taken c.args.source.now) (s.taken c.next_line.new.source) (s.taken c.skip_to_end.new.source) (s.left c.args.source.now) (s.left c.next_line.new.source) (s.left c.skip_to_end.new.source) c.loop-listed.listed c.next_line.new.self c.skip_to_end.new.self f.0 c.in_err-ended-in-TooLong.field-0.0 c.in_err-ended-in-TooLong.ensures.skips)

pub returns-in_err-add_too_long-in-TooLong-clause-reads : goal.returns-in_err-add_too_long-in-TooLong-clause-reads
returns-in_err-add_too_long-in-TooLong-clause-reads g c =
    let s = g.S.Source in
    let n = subst (λ (line : NextLine). NextLineIs (s.taken c.loop-listed.source) (s.taken c.next_line.new.source) (s.left c.loop-listed.source) (s.left c.next_line.new.source) c.loop-listed.reader (Ok line) c.next_line.new.self) c.in-TooLong.is c.in_ok-end.ensures.next in
    let f = found c.args.widths (s.taken c.args.source.now) (s.taken c.loop-listed.source) (s.taken c.next_line.new.source) (s.left c.args.source.now) (s.left c.loop-listed.source) (s.left c.next_line.new.source) c.loop-listed.listed c.loop-listed.reader c.next_line.new.self c.loop-listed.invariant.read TooLong n in
    let skips = c.in_ok-ended-in-TooLong.ensures.skips in
    let h = skipped c.args.widths (s.taken c.args.source.now) (s.taken c.next_line.new.source) (s.taken c.skip_to_end.new.source) (s.left c.args.source.now) (s.left c.next_line.new.source) (s.left c.skip_to_end.new.source) c.loop-listed.listed c.next_line.new.self c.skip_to_end.new.self f.0 (Ok c.in_ok-ended-in-TooLong.ended) skips in
    let p = err_from_is_err_and c.from_residual-in_err-add_too_long-in-TooLong.result c.from_residual-in_err-add_too_long-in-TooLong.ensures.1 in
    rw (p.1, p.2) (no_memory c.args.widths (s.taken c.args.source.now) (s.taken c.skip_to_end.new.source) (s.left c.args.source.now) (s.left c.skip_to_end.new.source) c.loop-listed.listed (with_bytes c.next_line.new.self skips.more) h)

pub returns-then-not-ended-clause-reads : goal.returns-then-not-ended-clause-reads
returns-then-not-ended-clause-reads g c =
    let s = g.S.Source in
    let n = subst (λ (line : NextLine). NextLineIs (s.taken c.loop-listed.source) (s.taken c.next_line.new.source) (s.left c.loop-listed.source) (s.left c.next_line.new.source) c.loop-listed.reader (Ok line) c.next_line.new.self) c.in-TooLong.is c.in_ok-end.ensures.next in
    let f = found c.args.widths (s.taken c.args.source.now) (s.taken c.loop-listed.source) (s.taken c.next_line.new.source) (s.left c.args.source.now) (s.left c.loop-listed.source) (s.left c.next_line.new.source) c.loop-listed.listed c.loop-listed.reader c.next_line.new.self c.loop-listed.invariant.read TooLong n in
    let no : c.in_ok-ended-in-TooLong.ended ≡ false = search rules in
    let skips = subst (λ (b : Bool). SkipsLine (s.taken c.next_line.new.source) (s.taken c.skip_to_end.new.source) (s.left c.next_line.new.source) (s.left c.skip_to_end.new.source) c.next_line.new.self (Ok b) c.skip_to_end.new.self) no c.in_ok-ended-in-TooLong.ensures.skips in
    subst (λ (r : ListingRead). ReadsListing c.args.widths (s.taken c.args.source.now) (s.taken c.skip_to_end.new.source) (s.left c.args.source.now) (s.left c.skip_to_end.new.source) (Ok r)) (sym c.in_ok-add_too_long-in-TooLong.ensures.ok) (long_last c.args.widths (s.taken c.args.source.now) (s.taken c.next_line.new.source) (s.taken c.skip_to_end.new.source) (s.left c.args.source.now) (s.left c.next_line.new.source) (s.left c.skip_to_end.new.source) c.loop-listed.listed c.next_line.new.self c.skip_to_end.new.self f.0 f.1 skips)

pub loop-listed-smaller : goal.loop-listed-smaller
loop-listed-smaller g c =
    let s = g.S.Source in
    let n = subst (λ (line : NextLine). NextLineIs (s.taken c.loop-listed.source) (s.taken c.next_line.new.source) (s.left c.loop-listed.source) (s.left c.next_line.new.source) c.loop-listed.reader (Ok line) c.next_line.new.self) c.in-TooLong.is c.in_ok-end.ensures.next in
    let f = found c.args.widths (s.taken c.args.source.now) (s.taken c.loop-listed.source) (s.taken c.next_line.new.source) (s.left c.args.source.now) (s.left c.loop-listed.source) (s.left c.next_line.new.source) c.loop-listed.listed c.loop-listed.reader c.next_line.new.self c.loop-listed.invariant.read TooLong n in
    let yes : c.in_ok-ended-in-TooLong.ended ≡ true = search rules in
    let skips = subst (λ (b : Bool). SkipsLine (s.taken c.next_line.new.source) (s.taken c.skip_to_end.new.source) (s.left c.next_line.new.source) (s.left c.skip_to_end.new.source) c.next_line.new.self (Ok b) c.skip_to_end.new.self) yes c.in_ok-ended-in-TooLong.ensures.skips in
    shorter (s.taken c.loop-listed.source) (s.taken c.next_line.new.source) (s.taken c.skip_to_end.new.source) (s.left c.loop-listed.source) (s.left c.next_line.new.source) (s.left c.skip_to_end.new.source) c.loop-listed.reader c.next_line.new.self c.skip_to_end.new.self TooLong n skips

pub loop-listed-preserved : goal.loop-listed-preserved
loop-listed-preserved g c =
    let s = g.S.Source in
    let n = subst (λ (line : NextLine). NextLineIs (s.taken c.loop-listed.source) (s.taken c.next_line.new.source) (s.left c.loop-listed.source) (s.left c.next_line.new.source) c.loop-listed.reader (Ok line) c.next_line.new.self) c.in-TooLong.is c.in_ok-end.ensures.next in
    let f = found c.args.widths (s.taken c.args.source.now) (s.taken c.loop-listed.source) (s.taken c.next_line.new.source) (s.left c.args.source.now) (s.left c.loop-listed.source) (s.left c.next_line.new.source) c.loop-listed.listed c.loop-listed.reader c.next_line.new.self c.loop-listed.invariant.read TooLong n in
    let yes : c.in_ok-ended-in-TooLong.ended ≡ true = search rules in
    let skips = subst (λ (b : Bool). SkipsLine (s.taken c.next_line.new.source) (s.taken c.skip_to_end.new.source) (s.left c.next_line.new.source) (s.left c.skip_to_end.new.source) c.next_line.new.self (Ok b) c.skip_to_end.new.self) yes c.in_ok-ended-in-TooLong.ensures.skips in
    let one = long_on c.args.widths (s.taken c.args.source.now) (s.taken c.next_line.new.source) (s.taken c.skip_to_end.new.source) (s.left c.args.source.now) (s.left c.next_line.new.source) (s.left c.skip_to_end.new.source) c.loop-listed.listed c.next_line.new.self c.skip_to_end.new.self f.0 f.1 skips in
    let was = c.loop-listed.invariant.later in
    let now = c.next_line.ensures.later in
    let behind = c.skip_to_end.ensures.later in
    record {
      read = subst (λ (r : ListingRead). HasRead c.args.widths (s.taken c.args.source.now) (s.taken c.skip_to_end.new.source) (s.left c.args.source.now) (s.left c.skip_to_end.new.source) r c.skip_to_end.new.self) (sym c.in_ok-add_too_long-in-TooLong.ensures.ok) one;
      most = skipped_most (s.taken c.loop-listed.source) (s.taken c.next_line.new.source) (s.taken c.skip_to_end.new.source) (s.left c.loop-listed.source) (s.left c.next_line.new.source) (s.left c.skip_to_end.new.source) c.loop-listed.reader c.next_line.new.self c.skip_to_end.new.self skips;
      later = omega (arith, was, now, behind);
    }

pub returns-in_err-with_last-in-Last-clause-reads : goal.returns-in_err-with_last-in-Last-clause-reads
returns-in_err-with_last-in-Last-clause-reads g c =
    let s = g.S.Source in
    let n = subst (λ (line : NextLine). NextLineIs (s.taken c.loop-listed.source) (s.taken c.next_line.new.source) (s.left c.loop-listed.source) (s.left c.next_line.new.source) c.loop-listed.reader (Ok line) c.next_line.new.self) c.in-Last.is c.in_ok-end.ensures.next in
    let f = found c.args.widths (s.taken c.args.source.now) (s.taken c.loop-listed.source) (s.taken c.next_line.new.source) (s.left c.args.source.now) (s.left c.loop-listed.source) (s.left c.next_line.new.source) c.loop-listed.listed c.loop-listed.reader c.next_line.new.self c.loop-listed.invariant.read Last n in
    let p = err_from_is_err_and c.from_residual-in_err-with_last-in-Last.result c.from_residual-in_err-with_last-in-Last.ensures.1 in
    rw (p.1, p.2) (no_memory c.args.widths (s.taken c.args.source.now) (s.taken c.next_line.new.source) (s.left c.args.source.now) (s.left c.next_line.new.source) c.loop-listed.listed c.next_line.new.self f.0)

pub returns-in-Last-clause-reads : goal.returns-in-Last-clause-reads
returns-in-Last-clause-reads g c =
    let s = g.S.Source in
    let n = subst (λ (line : NextLine). NextLineIs (s.taken c.loop-listed.source) (s.taken c.next_line.new.source) (s.left c.loop-listed.source) (s.left c.next_line.new.source) c.loop-listed.reader (Ok line) c.next_line.new.self) c.in-Last.is c.in_ok-end.ensures.next in
    let f = found c.args.widths (s.taken c.args.source.now) (s.taken c.loop-listed.source) (s.taken c.next_line.new.source) (s.left c.args.source.now) (s.left c.loop-listed.source) (s.left c.next_line.new.source) c.loop-listed.listed c.loop-listed.reader c.next_line.new.self c.loop-listed.invariant.read Last n in
    let made = c.in_ok-with_last-in-Last.ensures ∙ ap (λ (xs : List ℕ). record { widths = c.loop-listed.listed.widths; lines = c.loop-listed.listed.lines ++ last_read xs }) c.bytes-in-Last.ensures in
    subst (λ (r : ListingRead). ReadsListing c.args.widths (s.taken c.args.source.now) (s.taken c.next_line.new.source) (s.left c.args.source.now) (s.left c.next_line.new.source) (Ok r)) (sym made) (ended c.args.widths (s.taken c.args.source.now) (s.taken c.next_line.new.source) (s.left c.args.source.now) (s.left c.next_line.new.source) c.loop-listed.listed c.next_line.new.self f.0 f.1.0 f.1.1 f.1.2)
