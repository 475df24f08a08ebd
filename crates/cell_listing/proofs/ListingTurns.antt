-- Reading the lines of a listing, one after the other.
use Rattle.std.proofs.Common.{◌≡◌, ℕ, ◌+◌, ◌-◌, ◌^◌, ◌<◌, ◌≤◌, Bool, true, false, cond, List, [], ◌∷◌, ◌++◌, length, take, drop, refl, sym, ap, subst, ◌∙◌, append-nil, arith, length-append, lt-ltb}
use Rattle.std.specs.Prelude.{Option, None, Some, Result, Ok, Err, filter, map}
use Rattle.std.specs.Io.KnownBytes.{Appends, Consumes, IsAtEnd}
use Rattle.std.proofs.KnownBytes.{Appends-nil, Consumes-nil, Appends-trans, Consumes-trans}
use Rattle.list_lemmas.proofs.ListCuts.{filter_join, map_join}
use Rattle.line_stream.specs.Lines.{Line, Splits, has_line_end, last_line, lines_of, whole_line}
use Rattle.line_stream.specs.LineReadings.{Reading}
use Rattle.line_stream.specs.Reads.{BeginsTooLong, BeginsWithLine, Finds, IsFirstTooLong, IsFront, NextLineIs, Skips, SkipsLine, no_bytes, with_bytes, without_line}
use Rattle.line_stream.specs.declared.reader.InputFault.{InputFault}
use Rattle.line_stream.specs.declared.reader.InputFault.TheVariants as fault
use Rattle.line_stream.specs.declared.reader.NextLine.{NextLine}
use Rattle.line_stream.proofs.CallerLemmas.{lines_at_end, lines_of_front, splits_cut, splits_more, splits_none, splits_with}
use Rattle.row_key.specs.declared.widths.Widths.{Widths}
use Rattle.cell_listing.specs.Cuts.{parts_by}
use Rattle.cell_listing.specs.Grammar.{all_read, cell_by, four_of, is_line, last_read, line_by, line_read, listed}
use Rattle.cell_listing.specs.ListedLines.{ListingRead, with_line}
use Rattle.cell_listing.specs.ListingReads.{ReadsListing}
use Rattle.cell_listing.specs.declared.listing_line.TheConstants.{LONGEST_LISTED}
use Rattle.cell_listing.specs.declared.listing_line.LineRead.{LineRead}
use Rattle.cell_listing.specs.declared.listing_line.LineRead.TheVariants.{Other}

read_join : (a b : List Line) → all_read (a ++ b) ≡ all_read a ++ all_read b
read_join a b = ap (map (λ (line : Line). line_read line.bytes)) (filter_join is_line a b) ∙ map_join (λ (line : Line). line_read line.bytes) (filter is_line a) (filter is_line b)

-- a line that is too long is read so
pub long_read : (line : List ℕ) → LONGEST_LISTED < length line → line_read line ≡ Other None
long_read line long =
    let t = lt-ltb LONGEST_LISTED (length line) long in
    ap (λ b. line_by line (cond b None (cell_by (four_of (parts_by 32 line))))) t ∙ ap (λ b. Other (cond b None (Some line))) t

-- ---- an input

-- of an input so far these lines were read, and the rest is left
pub record IsSoFar (input : List ℕ) (lines : List LineRead) (rest : List ℕ) : Type 0 where
  pub own : List Line
  pub splits : Splits input own rest
  pub lines_are : lines ≡ all_read own

pub nothing_read : IsSoFar [] [] []
nothing_read = record { own = []; splits = splits_none []; lines_are = refl }

pub line_read_on : (input : List ℕ) (lines : List LineRead) (rest line new : List ℕ) → IsSoFar input lines rest → Splits rest (whole_line line ∷ []) new → IsSoFar input (lines ++ line_read line ∷ []) new
line_read_on input lines rest line new s t = record {
  own = s.own ++ whole_line line ∷ [];
  splits = splits_more input rest new s.own (whole_line line ∷ []) s.splits t;
  lines_are = ap (λ (ls : List LineRead). ls ++ line_read line ∷ []) s.lines_are ∙ sym (read_join s.own (whole_line line ∷ []));
}

pub bytes_read_on : (input : List ℕ) (lines : List LineRead) (rest more : List ℕ) → IsSoFar input lines rest → IsSoFar (input ++ more) lines (rest ++ more)
bytes_read_on input lines rest more s = record { own = s.own; splits = splits_with input rest more s.own s.splits; lines_are = s.lines_are }

pub listed_end : (input : List ℕ) (lines : List LineRead) (rest : List ℕ) → IsSoFar input lines rest → has_line_end rest ≡ false → listed input ≡ lines ++ last_read rest
listed_end input lines rest s none =
    ap all_read (lines_at_end input rest s.own s.splits none) ∙ read_join s.own (last_line rest ∷ []) ∙ ap (λ (ls : List LineRead). ls ++ last_read rest) (sym s.lines_are)

pub last_with : (b : ℕ) (rest : List ℕ) → last_read (b ∷ rest) ≡ line_read (b ∷ rest) ∷ []
last_with b rest = ap (λ t. map (λ (line : Line). line_read line.bytes) (cond t (last_line (b ∷ rest) ∷ []) [])) (lt-ltb 0 (length (b ∷ rest)) (omega arith))

-- ---- a source

-- these bytes were taken, and read so far
pub record HasRead (widths : Widths) (taken taken' left left' : Option (List ℕ)) (read : ListingRead) (r : Reading) : Type 0 where
  pub input : List ℕ
  pub takes : Appends taken taken' input
  pub leaves : Consumes left left' input
  pub size : length input ≡ r.taken
  pub longest : r.longest ≡ LONGEST_LISTED
  pub widths_are : read.widths ≡ widths
  pub so_far : IsSoFar input read.lines r.bytes

pub begun : (widths : Widths) (taken left : Option (List ℕ)) → HasRead widths taken taken left left (record { widths = widths; lines = [] }) (no_bytes LONGEST_LISTED)
begun widths taken left = record { input = []; takes = Appends-nil taken; leaves = Consumes-nil left; size = refl; longest = refl; widths_are = refl; so_far = nothing_read }

module _ (widths : Widths) (taken taken' taken'' left left' left'' : Option (List ℕ)) (read : ListingRead) (old new : Reading) (h : HasRead widths taken taken' left left' read old) where
  -- the next line was looked for
  pub looked_for : (result : Result NextLine InputFault) (n : NextLineIs taken' taken'' left' left'' old result new) → HasRead widths taken taken'' left left'' read (with_bytes old n.more)
  looked_for result n = record {
    input = h.input ++ n.more;
    takes = Appends-trans taken taken' taken'' h.input n.more h.takes n.takes;
    leaves = Consumes-trans left left' left'' h.input n.more h.leaves n.leaves;
    size = (let grown = length-append h.input n.more in let was = h.size in omega (arith, grown, was));
    longest = h.longest;
    widths_are = h.widths_are;
    so_far = bytes_read_on h.input read.lines old.bytes n.more h.so_far;
  }

  -- and found
  pub found : (line : NextLine) → NextLineIs taken' taken'' left' left'' old (Ok line) new → HasRead widths taken taken'' left left'' read new × Finds left'' new (Ok line) × (new.taken ≤ 2 ^ 40)
  found line n = (
    subst (HasRead widths taken taken'' left left'' read) (sym n.keeps) (looked_for (Ok line) n),
    subst (λ (r : Reading). Finds left'' r (Ok line)) (sym n.keeps) n.finds,
    (let is = ap (λ (r : Reading). r.taken) n.keeps in let most = n.most in omega (arith, is, most)),
  )

  pub not_found : (f : InputFault) → NextLineIs taken' taken'' left' left'' old (Err f) new → ReadsListing widths taken taken'' left left'' (Err f)
  not_found f n = at f n.finds (looked_for (Err f) n)
    where
      at : (g : InputFault) → Finds left'' (with_bytes old n.more) (Err g) → HasRead widths taken taken'' left left'' read (with_bytes old n.more) → ReadsListing widths taken taken'' left left'' (Err g)
      at fault.Failed x k = record { input = k.input; takes = k.takes; leaves = k.leaves; reads = (let s = k.size in let some = x.1 in omega (arith, s, some)) }
      at fault.Full x k = record { input = k.input; takes = k.takes; leaves = k.leaves; reads = k.size ∙ x.1 }
      at fault.OutOfMemory x k = record { input = k.input; takes = k.takes; leaves = k.leaves; reads = tt }

  -- a line that is too long was skipped
  pub skipped : (result : Result Bool InputFault) (s : SkipsLine taken' taken'' left' left'' old result new) → HasRead widths taken taken'' left left'' read (with_bytes old s.more)
  skipped result s = record {
    input = h.input ++ s.more;
    takes = Appends-trans taken taken' taken'' h.input s.more h.takes s.takes;
    leaves = Consumes-trans left left' left'' h.input s.more h.leaves s.leaves;
    size = (let grown = length-append h.input s.more in let was = h.size in omega (arith, grown, was));
    longest = h.longest;
    widths_are = h.widths_are;
    so_far = bytes_read_on h.input read.lines old.bytes s.more h.so_far;
  }

  pub not_skipped : (f : InputFault) → SkipsLine taken' taken'' left' left'' old (Err f) new → ReadsListing widths taken taken'' left left'' (Err f)
  not_skipped f s = at f s.skips (skipped (Err f) s)
    where
      at : (g : InputFault) → Skips left'' (with_bytes old s.more) (Err g) new → HasRead widths taken taken'' left left'' read (with_bytes old s.more) → ReadsListing widths taken taken'' left left'' (Err g)
      at fault.Failed x k = record { input = k.input; takes = k.takes; leaves = k.leaves; reads = (let s = k.size in let some = x.1 in omega (arith, s, some)) }
      at fault.Full x k = record { input = k.input; takes = k.takes; leaves = k.leaves; reads = k.size ∙ x.1 }
      at fault.OutOfMemory x k = record { input = k.input; takes = k.takes; leaves = k.leaves; reads = tt }

  -- the first line of these bytes is this one
  first_long : (line : List ℕ) (ended : Bool) (others : List Line) (bytes : List ℕ) → IsFirstTooLong old.longest (lines_of bytes) → lines_of bytes ≡ (record { bytes = line; ended = ended }) ∷ others → LONGEST_LISTED < length line
  first_long line ended others bytes f e = subst (λ (n : ℕ). n < length line) h.longest (subst (λ (l : Line). old.longest < length l.bytes) (first_same (sym f.is ∙ e)) f.long)
    where
      first_or : List Line → Line
      first_or [] = last_line []
      first_or (l ∷ ls) = l

      first_same : {a b : Line} {more others : List Line} → a ∷ more ≡ b ∷ others → a ≡ b
      first_same e = ap first_or e

  pub long_on : BeginsTooLong old.longest old.bytes → SkipsLine taken' taken'' left' left'' old (Ok true) new → HasRead widths taken taken'' left left'' (with_line read (Other None)) new
  long_on long s =
      let k = skipped (Ok true) s in
      let w = s.skips in
      let cut : Splits (old.bytes ++ s.more) (whole_line w.line ∷ []) w.rest = subst (λ (xs : List ℕ). Splits xs (whole_line w.line ∷ []) w.rest) (sym w.bytes) (splits_cut w.line w.rest w.whole) in
      let first : lines_of (old.bytes ++ s.more) ≡ whole_line w.line ∷ lines_of (w.rest ++ []) = ap lines_of (sym (append-nil (old.bytes ++ s.more))) ∙ cut [] in
      let is = long_read w.line (first_long w.line true (lines_of (w.rest ++ [])) (old.bytes ++ s.more) (long s.more) first) in
      let read_so = line_read_on k.input read.lines (old.bytes ++ s.more) w.line w.rest k.so_far cut in
      let rest : w.rest ≡ new.bytes = sym (ap (λ (r : Reading). r.bytes) w.is) in
      record {
        input = k.input;
        takes = k.takes;
        leaves = k.leaves;
        size = k.size ∙ sym (ap (λ (r : Reading). r.taken) w.is);
        longest = ap (λ (r : Reading). r.longest) w.is ∙ h.longest;
        widths_are = h.widths_are;
        so_far = subst (λ (xs : List ℕ). IsSoFar k.input (read.lines ++ Other None ∷ []) xs) rest (subst (λ (l : LineRead). IsSoFar k.input (read.lines ++ l ∷ []) w.rest) is read_so);
      }

  pub long_last : BeginsTooLong old.longest old.bytes → SkipsLine taken' taken'' left' left'' old (Ok false) new → ReadsListing widths taken taken'' left left'' (Ok (with_line read (Other None)))
  long_last long s =
      let k = skipped (Ok false) s in
      let w = s.skips.0 in
      let first : lines_of (old.bytes ++ s.more) ≡ last_line (old.bytes ++ s.more) ∷ [] = lines_of_front (old.bytes ++ s.more) w.whole in
      let longer = first_long (old.bytes ++ s.more) false [] (old.bytes ++ s.more) (long s.more) first in
      let size = k.size in
      let some = s.skips.2 in
      record {
        input = k.input;
        takes = k.takes;
        leaves = k.leaves;
        reads = (
          s.skips.1,
          omega (arith, size, some),
          (λ i. record { widths = h.widths_are i; lines = sym (listed_end k.input read.lines (old.bytes ++ s.more) k.so_far w.whole ∙ ap (λ (ls : List LineRead). read.lines ++ ls) (long_one (old.bytes ++ s.more) longer)) i }),
        );
      }
    where
      long_one : (bytes : List ℕ) → LONGEST_LISTED < length bytes → last_read bytes ≡ Other None ∷ []
      long_one [] l = absurd (omega (arith, l))
      long_one (b ∷ bytes) l = last_with b bytes ∙ ap (λ (x : LineRead). x ∷ []) (long_read (b ∷ bytes) l)

module _ (widths : Widths) (taken taken' left left' : Option (List ℕ)) (read : ListingRead) (r : Reading) (h : HasRead widths taken taken' left left' read r) where
  -- a line that isn't too long was read
  pub short_on : (end : ℕ) → BeginsWithLine r.longest r.bytes end → HasRead widths taken taken' left left' (with_line read (line_read (take end r.bytes))) (without_line r end)
  short_on end b = record {
    input = h.input;
    takes = h.takes;
    leaves = h.leaves;
    size = h.size;
    longest = h.longest;
    widths_are = h.widths_are;
    so_far = line_read_on h.input read.lines r.bytes (take end r.bytes) (drop (end + 1) r.bytes) h.so_far b.splits;
  }

  pub no_memory : ReadsListing widths taken taken' left left' (Err fault.OutOfMemory)
  no_memory = record { input = h.input; takes = h.takes; leaves = h.leaves; reads = tt }

  -- the source's end came
  pub ended : IsFront r.longest r.bytes → IsAtEnd left' → r.taken < 2 ^ 40 → ReadsListing widths taken taken' left left' (Ok (record { widths = read.widths; lines = read.lines ++ last_read r.bytes }))
  ended front end some = record {
    input = h.input;
    takes = h.takes;
    leaves = h.leaves;
    reads = (end, (let s = h.size in omega (arith, s, some)), (λ i. record { widths = h.widths_are i; lines = sym (listed_end h.input read.lines r.bytes h.so_far front.whole) i }));
  }

-- what a line that is too long leaves
module _ (taken taken' taken'' left left' left'' : Option (List ℕ)) (old mid new : Reading) where
  pub skipped_most : SkipsLine taken' taken'' left' left'' mid (Ok true) new → new.taken ≤ 2 ^ 40
  skipped_most s = let t = ap (λ (r : Reading). r.taken) s.skips.is in let m = s.most in omega (arith, t, m)

  pub shorter : (line : NextLine) → NextLineIs taken taken' left left' old (Ok line) mid → SkipsLine taken' taken'' left' left'' mid (Ok true) new → 2 ^ 40 + length new.bytes - new.taken < 2 ^ 40 + length old.bytes - old.taken
  shorter line n s =
      let w = s.skips in
      let a = ap (λ (r : Reading). length r.bytes) n.keeps ∙ length-append old.bytes n.more in
      let b = ap (λ (r : Reading). r.taken) n.keeps in
      let d = sym (length-append mid.bytes s.more) ∙ ap length w.bytes ∙ length-append w.line (10 ∷ w.rest) in
      let e = ap (λ (r : Reading). r.taken) w.is in
      let f = ap (λ (r : Reading). length r.bytes) w.is in
      let m = s.most in
      omega (arith, a, b, d, e, f, m)
