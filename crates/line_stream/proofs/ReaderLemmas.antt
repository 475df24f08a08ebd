-- How the next line of an input is found.
use Rattle.std.proofs.Common.{◌≡◌, ℕ, ◌+◌, ◌^◌, ◌<◌, ◌≤◌, Bool, true, false, cond, List, [], ◌∷◌, ◌++◌, length, take, drop, refl, sym, ap, subst, ◌∙◌, add-zero, append_assoc, append-nil, arith, length-append}
use Rattle.std.specs.Prelude.{Option, Some, None, Ok, Err, nat_eq, nat_lt, ◌||◌}
use Rattle.std.specs.Io.KnownBytes.{Appends, Consumes}
use Rattle.std.proofs.KnownBytes.{Appends-nil, Consumes-nil, Appends-trans, Consumes-trans}
use Rattle.std.proofs.lemmas.Bool.Decides.{nat_tests}
use Rattle.line_stream.specs.Lines.{EndsLine, has_line_end}
use Rattle.line_stream.specs.LineReadings.{Reading}
use Rattle.line_stream.specs.Reads.{FirstLine, Feeds, Finds, IsFront, NextLineIs, SkipsLast, SkipsLine, SkipsWhole, TakesPiece, front, line_to, with_bytes, without_line}
use Rattle.line_stream.specs.declared.reader.InputFault.{InputFault}
use Rattle.line_stream.specs.declared.reader.InputFault.TheVariants as fault
use Rattle.line_stream.specs.declared.reader.NextLine.{NextLine}
use Rattle.line_stream.specs.declared.reader.NextLine.TheVariants.{Whole, Last, TooLong}
use Rattle.line_stream.proofs.CallerLemmas.{splits_line}
use Rattle.line_stream.proofs.FirstLines.{cut_at, long_line, long_front, neither}

-- ---- what bytes begin with
line_found : (longest : ℕ) (bytes : List ℕ) (end : ℕ) → EndsLine (Some end) bytes → (t : Bool) → nat_lt longest end ≡ t → FirstLine longest bytes (Some (cond t TooLong (Whole end)))
line_found longest bytes end e true t = λ more. long_line longest bytes more end e.0 e.1 e.2 (grind (arith, nat_tests, t))
line_found longest bytes end e false t = record { within = e.0; short = grind (arith, nat_tests, t); splits = splits_line bytes end e.0 e.1 e.2 }

pub first_whole : (longest : ℕ) (bytes : List ℕ) (end : ℕ) → EndsLine (Some end) bytes → FirstLine longest bytes (Some (line_to longest end))
first_whole longest bytes end e = line_found longest bytes end e (nat_lt longest end) refl

front_found : (longest : ℕ) (bytes : List ℕ) → EndsLine None bytes → (t : Bool) → nat_lt longest (length bytes) ≡ t → FirstLine longest bytes (cond t (Some TooLong) None)
front_found longest bytes e true t = λ more. long_front longest bytes more e (grind (arith, nat_tests, t))
front_found longest bytes e false t = record { short = grind (arith, nat_tests, t); whole = e }

pub first_front : (longest : ℕ) (bytes : List ℕ) → EndsLine None bytes → FirstLine longest bytes (front longest bytes)
first_front longest bytes e = front_found longest bytes e (nat_lt longest (length bytes)) refl

-- ---- what was taken so far
pub record HasTaken (taken taken' left left' : Option (List ℕ)) (old new : Reading) : Type 0 where
  pub more : List ℕ
  pub takes : Appends taken taken' more
  pub leaves : Consumes left left' more
  pub is : new ≡ with_bytes old more

with_none : (r : Reading) → r ≡ with_bytes r []
with_none r = sym (ap (λ xs. record { longest = r.longest; bytes = xs; lines = r.lines; taken = r.taken + 0 }) (append-nil r.bytes) ∙ ap (λ n. record { longest = r.longest; bytes = r.bytes; lines = r.lines; taken = n }) (add-zero r.taken))

with_both : (r : Reading) (more further : List ℕ) → with_bytes (with_bytes r more) further ≡ with_bytes r (more ++ further)
with_both r more further =
    let l = length-append more further in
    ap (λ xs. record { longest = r.longest; bytes = xs; lines = r.lines; taken = r.taken + length more + length further }) (append_assoc r.bytes more further)
    ∙ ap (λ n. record { longest = r.longest; bytes = r.bytes ++ (more ++ further); lines = r.lines; taken = n }) (omega (arith, l))

pub nothing_taken : (taken left : Option (List ℕ)) (r : Reading) → HasTaken taken taken left left r r
nothing_taken taken left r = record { more = []; takes = Appends-nil taken; leaves = Consumes-nil left; is = with_none r }

module _ (taken taken' taken'' left left' left'' : Option (List ℕ)) (old mid new : Reading) (h : HasTaken taken taken' left left' old mid) where
  taken_of : mid.taken ≡ old.taken + length h.more
  taken_of = ap (λ (r : Reading). r.taken) h.is

  all_most : (more : List ℕ) → mid.taken + length more ≤ 2 ^ 40 → old.taken + length (h.more ++ more) ≤ 2 ^ 40
  all_most more most = let t = taken_of in let l = length-append h.more more in omega (arith, t, l, most)

  all_is : (more : List ℕ) → new ≡ with_bytes mid more → new ≡ with_bytes old (h.more ++ more)
  all_is more is = is ∙ ap (λ r. with_bytes r more) h.is ∙ with_both old h.more more

  pub taken_on : (count : ℕ) → TakesPiece taken' taken'' left' left'' mid (Ok count) new → HasTaken taken taken'' left left'' old new
  taken_on count p = record {
    more = h.more ++ p.more;
    takes = Appends-trans taken taken' taken'' h.more p.more h.takes p.takes;
    leaves = Consumes-trans left left' left'' h.more p.more h.leaves p.leaves;
    is = all_is p.more p.keeps;
  }

  -- at the source's end
  pub at_end : IsFront mid.longest mid.bytes → mid.taken < 2 ^ 40 → TakesPiece taken' taken'' left' left'' mid (Ok 0) new → NextLineIs taken taken'' left left'' old (Ok Last) new
  at_end f some p =
      let t : HasTaken taken taken'' left left'' old new = record { more = h.more ++ p.more; takes = Appends-trans taken taken' taken'' h.more p.more h.takes p.takes; leaves = Consumes-trans left left' left'' h.more p.more h.leaves p.leaves; is = all_is p.more p.keeps } in
      let none : p.more ≡ [] = empty p.more p.count.0 in
      let same : new ≡ mid = p.keeps ∙ ap (with_bytes mid) none ∙ sym (with_none mid) in
      let moved : with_bytes old t.more ≡ mid = sym t.is ∙ same in
      record {
        more = t.more;
        takes = t.takes;
        leaves = t.leaves;
        most = all_most p.more p.most;
        keeps = t.is;
        loses = tt;
        finds = subst (λ (r : Reading). Finds left'' r (Ok Last)) (sym moved) (f, p.count.1 refl, some);
      }
    where
      empty : (xs : List ℕ) → length xs ≡ 0 → xs ≡ []
      empty [] e = refl
      empty (x ∷ xs) e = absurd (omega (arith, e))

  -- the source failed, or there was no memory
  pub not_taken : (f : InputFault) → IsFront mid.longest mid.bytes → mid.taken < 2 ^ 40 → TakesPiece taken' taken'' left' left'' mid (Err f) new → NextLineIs taken taken'' left left'' old (Err f) new
  not_taken fault.Failed f some p =
      let same : with_bytes mid p.more ≡ mid = ap (with_bytes mid) p.count ∙ sym (with_none mid) in
      record {
        more = h.more ++ p.more;
        takes = Appends-trans taken taken' taken'' h.more p.more h.takes p.takes;
        leaves = Consumes-trans left left' left'' h.more p.more h.leaves p.leaves;
        most = all_most p.more p.most;
        keeps = all_is p.more p.keeps;
        loses = tt;
        finds = subst (λ (r : Reading). Finds left'' r (Err fault.Failed)) (sym (sym (ap (λ r. with_bytes r p.more) h.is ∙ with_both old h.more p.more) ∙ same)) (f, some);
      }
  not_taken fault.Full f some p = absurd p.count
  not_taken fault.OutOfMemory f some p = record {
    more = h.more ++ p.more;
    takes = Appends-trans taken taken' taken'' h.more p.more h.takes p.takes;
    leaves = Consumes-trans left left' left'' h.more p.more h.leaves p.leaves;
    most = all_most p.more p.most;
    keeps = tt;
    loses = (h.more, p.more, refl, p.keeps ∙ h.is);
    finds = tt;
  }

module _ (taken taken' left left' : Option (List ℕ)) (old new : Reading) (h : HasTaken taken taken' left left' old new) where
  most_of : new.taken ≤ 2 ^ 40 → old.taken + length h.more ≤ 2 ^ 40
  most_of most = let t = ap (λ (r : Reading). r.taken) h.is in omega (arith, t, most)

  line_finds : (line : NextLine) → FirstLine new.longest new.bytes (Some line) → Finds left' new (Ok line)
  line_finds (Whole end) f = f
  line_finds Last f = absurd f
  line_finds TooLong f = f

  pub line_next : (line : NextLine) → new.taken ≤ 2 ^ 40 → FirstLine new.longest new.bytes (Some line) → NextLineIs taken taken' left left' old (Ok line) new
  line_next line most f = record { more = h.more; takes = h.takes; leaves = h.leaves; most = most_of most; keeps = h.is; loses = tt; finds = subst (λ (r : Reading). Finds left' r (Ok line)) h.is (line_finds line f) }

  pub full : IsFront new.longest new.bytes → new.taken ≡ 2 ^ 40 → NextLineIs taken taken' left left' old (Err fault.Full) new
  full f is = record { more = h.more; takes = h.takes; leaves = h.leaves; most = most_of (omega (arith, is)); keeps = h.is; loses = tt; finds = subst (λ (r : Reading). Finds left' r (Err fault.Full)) h.is (f, is) }

-- ---- one piece
-- nothing is fed where a piece couldn't be taken or there was no memory for it
pub feeds_none : (taken taken' left left' : Option (List ℕ)) (old new : List ℕ) (room : ℕ) (f : InputFault) → Feeds taken taken' left left' old room (Err f) new → new ≡ old
feeds_none taken taken' left left' old new room fault.Failed p = p.keeps ∙ ap (λ xs. old ++ xs) p.count ∙ append-nil old
feeds_none taken taken' left left' old new room fault.Full p = absurd p.count
feeds_none taken taken' left left' old new room fault.OutOfMemory p = p.keeps

pub feeds_count : (taken taken' left left' : Option (List ℕ)) (old new : List ℕ) (room count : ℕ) → Feeds taken taken' left left' old room (Ok count) new → (length new ≡ length old + count) × (count ≤ room)
feeds_count taken taken' left left' old new room count p =
    let l = ap length p.keeps ∙ length-append old p.more in
    let c = p.count.0 in
    let m = p.most in
    (omega (arith, l, c), omega (arith, c, m))

-- ---- a line that is used up
pub whole_skipped : (old : Reading) (end : ℕ) → EndsLine (Some end) old.bytes → SkipsWhole old (without_line old end)
whole_skipped old end e = record { line = take end old.bytes; rest = drop (end + 1) old.bytes; whole = e.1; bytes = cut_at old.bytes end e.0 e.2; is = refl }

none_drops : (bytes : List ℕ) → drop (length bytes) bytes ≡ []
none_drops [] = refl
none_drops (b ∷ bytes) = none_drops bytes

pub last_skipped : (old : Reading) (count : ℕ) (rest : List ℕ) → EndsLine None old.bytes → count ≡ length old.bytes → rest ≡ drop count old.bytes
    → SkipsLast old (record { longest = old.longest; bytes = rest; lines = old.lines; taken = old.taken })
last_skipped old count rest e size is = record { whole = e; is = ap (λ xs. record { longest = old.longest; bytes = xs; lines = old.lines; taken = old.taken }) (is ∙ ap (λ n. drop n old.bytes) size ∙ none_drops old.bytes) }

-- so many of the bytes that were taken are of the first line and were used up
pub record HasSkipped (taken taken' left left' : Option (List ℕ)) (old new : Reading) : Type 0 where
  pub more : List ℕ
  pub takes : Appends taken taken' more
  pub leaves : Consumes left left' more
  pub front : List ℕ
  pub rest : List ℕ
  pub whole : has_line_end front ≡ false
  pub bytes : old.bytes ++ more ≡ front ++ rest
  pub is : new ≡ record { longest = old.longest; bytes = rest; lines = old.lines; taken = old.taken + length more }

pub nothing_skipped : (taken left : Option (List ℕ)) (r : Reading) → HasSkipped taken taken left left r r
nothing_skipped taken left r = record {
  more = [];
  takes = Appends-nil taken;
  leaves = Consumes-nil left;
  front = [];
  rest = r.bytes;
  whole = refl;
  bytes = append-nil r.bytes;
  is = ap (λ n. record { longest = r.longest; bytes = r.bytes; lines = r.lines; taken = n }) (sym (add-zero r.taken));
}

no_end_in_both : (xs ys : List ℕ) → has_line_end xs ≡ false → has_line_end ys ≡ false → has_line_end (xs ++ ys) ≡ false
no_end_in_both [] ys none others = others
no_end_in_both (x ∷ xs) ys none others = let h = neither (nat_eq x 10) (has_line_end xs) none in ap (λ t. t || has_line_end (xs ++ ys)) h.0 ∙ no_end_in_both xs ys h.1 others

module _ (taken taken' left left' : Option (List ℕ)) (old mid : Reading) (h : HasSkipped taken taken' left left' old mid) where
  skipped_most : mid.taken ≤ 2 ^ 40 → old.taken + length h.more ≤ 2 ^ 40
  skipped_most most = let t = ap (λ (r : Reading). r.taken) h.is in omega (arith, t, most)

  rest_is : mid.bytes ≡ h.rest
  rest_is = ap (λ (r : Reading). r.bytes) h.is

  -- the LF came
  pub line_skipped : (new : Reading) → mid.taken ≤ 2 ^ 40 → SkipsWhole mid new → SkipsLine taken taken' left left' old (Ok true) new
  line_skipped new most w = record {
    more = h.more;
    takes = h.takes;
    leaves = h.leaves;
    most = skipped_most most;
    skips = record {
      line = h.front ++ w.line;
      rest = w.rest;
      whole = no_end_in_both h.front w.line h.whole w.whole;
      bytes = h.bytes ∙ ap (λ xs. h.front ++ xs) (sym rest_is ∙ w.bytes) ∙ sym (append_assoc h.front w.line (10 ∷ w.rest));
      is = w.is ∙ ap (λ (r : Reading). record { longest = r.longest; bytes = w.rest; lines = r.lines + 1; taken = r.taken }) h.is;
    };
  }

  -- the LF has not come yet
  pub all_skipped : (new : Reading) → SkipsLast mid new → HasSkipped taken taken' left left' old new
  all_skipped new w = record {
    more = h.more;
    takes = h.takes;
    leaves = h.leaves;
    front = h.front ++ h.rest;
    rest = [];
    whole = no_end_in_both h.front h.rest h.whole (ap has_line_end (sym rest_is) ∙ w.whole);
    bytes = h.bytes ∙ sym (append-nil (h.front ++ h.rest));
    is = w.is ∙ ap (λ (r : Reading). record { longest = r.longest; bytes = []; lines = r.lines; taken = r.taken }) h.is;
  }

-- all that was taken is used up
pub record IsUsedUp (taken taken' left left' : Option (List ℕ)) (old new : Reading) : Type 0 where
  pub more : List ℕ
  pub takes : Appends taken taken' more
  pub leaves : Consumes left left' more
  pub skips : SkipsLast (with_bytes old more) new

pub used_up : (taken taken' left left' : Option (List ℕ)) (old mid new : Reading) → HasSkipped taken taken' left left' old mid → SkipsLast mid new → IsUsedUp taken taken' left left' old new
unfolding all_skipped
used_up taken taken' left left' old mid new h w =
    let a = all_skipped taken taken' left left' old mid h new w in
    record { more = a.more; takes = a.takes; leaves = a.leaves; skips = record { whole = ap has_line_end a.bytes ∙ no_end_in_both a.front [] a.whole refl; is = a.is } }

module _ (taken taken' taken'' left left' left'' : Option (List ℕ)) (old mid new : Reading) (h : IsUsedUp taken taken' left left' old mid) where
  used_taken : mid.taken ≡ old.taken + length h.more
  used_taken = ap (λ (r : Reading). r.taken) h.skips.is

  used_most : (more : List ℕ) → mid.taken + length more ≤ 2 ^ 40 → old.taken + length (h.more ++ more) ≤ 2 ^ 40
  used_most more most = let t = used_taken in let l = length-append h.more more in omega (arith, t, l, most)

  -- and one more piece was taken
  pub skipped_on : (count : ℕ) → TakesPiece taken' taken'' left' left'' mid (Ok count) new → HasSkipped taken taken'' left left'' old new
  skipped_on count p = record {
    more = h.more ++ p.more;
    takes = Appends-trans taken taken' taken'' h.more p.more h.takes p.takes;
    leaves = Consumes-trans left left' left'' h.more p.more h.leaves p.leaves;
    front = old.bytes ++ h.more;
    rest = p.more;
    whole = h.skips.whole;
    bytes = sym (append_assoc old.bytes h.more p.more);
    is = p.keeps ∙ ap (λ r. with_bytes r p.more) h.skips.is ∙ ap (λ n. record { longest = old.longest; bytes = p.more; lines = old.lines; taken = n }) (let l = length-append h.more p.more in omega (arith, l));
  }

  -- no more came
  same_used : (more : List ℕ) → more ≡ [] → new ≡ with_bytes mid more → SkipsLast (with_bytes old (h.more ++ more)) new
  same_used more none is =
      subst (λ (xs : List ℕ). SkipsLast (with_bytes old xs) new) (sym (ap (λ xs. h.more ++ xs) none ∙ append-nil h.more))
      (record { whole = h.skips.whole; is = is ∙ ap (with_bytes mid) none ∙ sym (with_none mid) ∙ h.skips.is })

  taken_same : (more : List ℕ) → more ≡ [] → mid.taken < 2 ^ 40 → old.taken + length (h.more ++ more) < 2 ^ 40
  taken_same more none some = let t = used_taken in let l = ap (λ xs. length (h.more ++ xs)) none in let n = ap length (append-nil h.more) in omega (arith, t, l, n, some)

  pub skipped_at_end : mid.taken < 2 ^ 40 → TakesPiece taken' taken'' left' left'' mid (Ok 0) new → SkipsLine taken taken'' left left'' old (Ok false) new
  skipped_at_end some p = record {
    more = h.more ++ p.more;
    takes = Appends-trans taken taken' taken'' h.more p.more h.takes p.takes;
    leaves = Consumes-trans left left' left'' h.more p.more h.leaves p.leaves;
    most = used_most p.more p.most;
    skips = (same_used p.more (empty p.more p.count.0) p.keeps, p.count.1 refl, taken_same p.more (empty p.more p.count.0) some);
  }
    where
      empty : (xs : List ℕ) → length xs ≡ 0 → xs ≡ []
      empty [] e = refl
      empty (x ∷ xs) e = absurd (omega (arith, e))

  pub skip_failed : (f : InputFault) → mid.taken < 2 ^ 40 → TakesPiece taken' taken'' left' left'' mid (Err f) new → SkipsLine taken taken'' left left'' old (Err f) new
  skip_failed fault.Failed some p = record {
    more = h.more ++ p.more;
    takes = Appends-trans taken taken' taken'' h.more p.more h.takes p.takes;
    leaves = Consumes-trans left left' left'' h.more p.more h.leaves p.leaves;
    most = used_most p.more p.most;
    skips = (same_used p.more p.count p.keeps, taken_same p.more p.count some);
  }
  skip_failed fault.Full some p = absurd p.count
  skip_failed fault.OutOfMemory some p = record {
    more = h.more ++ p.more;
    takes = Appends-trans taken taken' taken'' h.more p.more h.takes p.takes;
    leaves = Consumes-trans left left' left'' h.more p.more h.leaves p.leaves;
    most = used_most p.more p.most;
    skips = tt;
  }

pub skip_full : (taken taken' left left' : Option (List ℕ)) (old new : Reading) → IsUsedUp taken taken' left left' old new → new.taken ≡ 2 ^ 40 → SkipsLine taken taken' left left' old (Err fault.Full) new
skip_full taken taken' left left' old new h is =
    let t = ap (λ (r : Reading). r.taken) h.skips.is in
    record { more = h.more; takes = h.takes; leaves = h.leaves; most = omega (arith, t, is); skips = (h.skips, sym t ∙ is) }
