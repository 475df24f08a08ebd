-- The requests of bytes whose first line is known, and what is then to come.
use Rattle.std.proofs.Common.{◌≡◌, ℕ, ◌+◌, ◌-◌, ◌<◌, ◌≤◌, Bool, true, false, cond, List, [], ◌∷◌, ◌++◌, length, take, drop, length-append, refl, sym, ap, subst, ◌∙◌, append_assoc, append-nil, arith}
use Rattle.std.specs.Prelude.{nat_eq, ◌||◌, Option, None, Some, is_some, slice_index}
use Rattle.std.specs.List.{cons_option, filter_map}
use Rattle.std.proofs.lemmas.Bool.{eqb-true}
use Rattle.std.proofs.lemmas.Bool.Decides.{nat_tests}
use Rattle.std.proofs.lemmas.List.{length-drop, take-append-drop}
use Rattle.std.proofs.lemmas.List.Folds.{list_any-append}
use Rattle.std.proofs.Math.Seq.{drop-append-add, get_or-append_seam, take-append_seam}
use Rattle.line_stream.specs.declared.line.TheConstants.{LONGEST_LINE}
use Rattle.line_stream.specs.Lines.{EndsLine, has_line_end, is_too_long, lines_of, text_of, whole_line}
use Rattle.line_stream.proofs.CallerLemmas.{lines_of_front, splits_line}
use Rattle.telnet_put.specs.Requests.{Request, closes, request_of_text, request_of_line, requests_of, through_closing}
use Rattle.telnet_put.specs.Requests.Request.{TooLong}
use Rattle.telnet_put.specs.Sessions.{ComesAs, FindsNext, Gives, IsNext, Waits, to_come}
use Rattle.telnet_put.specs.Unread.{Unread}

-- the first line that an LF ends
pub record IsFirstLine (bytes : List ℕ) (end : ℕ) : Type 0 where
  pub within : end < length bytes
  pub none : has_line_end (take end bytes) ≡ false
  pub ten : slice_index bytes end ≡ 10

-- what it asks, if anything, and then what comes of the bytes behind it
abbrev requests_after : Option Request → List ℕ → List Request
requests_after asked rest = through_closing (cons_option asked (filter_map request_of_line (lines_of rest)))

requests_line : (bytes more : List ℕ) (end : ℕ) → IsFirstLine bytes end → requests_of (bytes ++ more) ≡ requests_after (request_of_line (whole_line (take end bytes))) (drop (end + 1) bytes ++ more)
requests_line bytes more end f = ap (λ ls. through_closing (filter_map request_of_line ls)) (splits_line bytes end f.within f.none f.ten more)

-- bytes without LF ask nothing
requests_front : (bytes : List ℕ) → has_line_end bytes ≡ false → requests_of bytes ≡ []
requests_front bytes none = ap (λ ls. through_closing (filter_map request_of_line ls)) (lines_of_front bytes none)

-- ---- the front of a line that is too long
record IsLongFront (bytes : List ℕ) : Type 0 where
  none : has_line_end bytes ≡ false
  long : LONGEST_LINE < length bytes

is_long : (bytes : List ℕ) → LONGEST_LINE < length bytes → is_too_long bytes ≡ true
is_long bytes long = grind (arith, nat_tests, long)

long_asks : (bytes : List ℕ) → LONGEST_LINE < length bytes → request_of_line (whole_line bytes) ≡ Some TooLong
long_asks bytes long = ap (λ t. cond t (Some TooLong) (request_of_text (text_of (whole_line bytes)))) (is_long bytes long)

requests_long : (bytes more : List ℕ) → IsLongFront bytes → requests_of (bytes ++ 10 ∷ more) ≡ requests_after (Some TooLong) more
requests_long bytes more l =
    let whole = bytes ++ 10 ∷ [] in
    let grown = length-append bytes (10 ∷ []) in
    let front : take (length bytes) whole ≡ bytes = take-append_seam bytes (10 ∷ []) in
    let first : IsFirstLine whole (length bytes) = record { within = omega (arith, grown); none = ap has_line_end front ∙ l.none; ten = get_or-append_seam bytes 10 [] 0 } in
    ap requests_of (sym (append_assoc bytes (10 ∷ []) more))
    ∙ requests_line whole more (length bytes) first
    ∙ ap (λ asked. requests_after asked (drop (length bytes + 1) whole ++ more)) (ap (λ xs. request_of_line (whole_line xs)) front ∙ long_asks bytes l.long)
    ∙ ap (λ xs. requests_after (Some TooLong) (xs ++ more)) (drop-append-add bytes (10 ∷ []) 1)

front_with : (bytes : List ℕ) (b : ℕ) → nat_eq b 10 ≡ false → IsLongFront bytes → IsLongFront (bytes ++ b ∷ [])
front_with bytes b other l = record {
  none = list_any-append (λ b. nat_eq b 10) bytes (b ∷ []) ∙ ap (λ t. t || (nat_eq b 10 || false)) l.none ∙ ap (λ t. t || false) other;
  long = (let grown = length-append bytes (b ∷ []) in let was = l.long in omega (arith, grown, was));
}

-- whatever bytes it has, the same requests come
requests_alike : (more xs ys : List ℕ) → IsLongFront xs → IsLongFront ys → requests_of (xs ++ more) ≡ requests_of (ys ++ more)
requests_alike [] xs ys l k = ap requests_of (append-nil xs) ∙ requests_front xs l.none ∙ sym (ap requests_of (append-nil ys) ∙ requests_front ys k.none)
requests_alike (b ∷ more) xs ys l k = at (nat_eq b 10) refl (requests_alike more (xs ++ b ∷ []) (ys ++ b ∷ []))
  where
    ended : (zs : List ℕ) → b ≡ 10 → IsLongFront zs → requests_of (zs ++ b ∷ more) ≡ requests_after (Some TooLong) more
    ended zs ten m = ap (λ b. requests_of (zs ++ b ∷ more)) ten ∙ requests_long zs more m

    at : (t : Bool) → nat_eq b 10 ≡ t → (IsLongFront (xs ++ b ∷ []) → IsLongFront (ys ++ b ∷ []) → requests_of ((xs ++ b ∷ []) ++ more) ≡ requests_of ((ys ++ b ∷ []) ++ more)) → requests_of (xs ++ b ∷ more) ≡ requests_of (ys ++ b ∷ more)
    at true e alike = let ten = eqb-true b 10 e in ended xs ten l ∙ sym (ended ys ten k)
    at false e alike = ap requests_of (sym (append_assoc xs (b ∷ []) more)) ∙ alike (front_with xs b e l) (front_with ys b e k) ∙ ap requests_of (append_assoc ys (b ∷ []) more)

right_none : (a b : Bool) → (a || b) ≡ false → b ≡ false
right_none true b e = absurd (grind (arith, e))
right_none false b e = e

none_drop : (n : ℕ) (bytes : List ℕ) → has_line_end bytes ≡ false → has_line_end (drop n bytes) ≡ false
none_drop n bytes none = right_none (has_line_end (take n bytes)) _ (sym (list_any-append (λ b. nat_eq b 10) (take n bytes) (drop n bytes)) ∙ ap has_line_end (take-append-drop n bytes) ∙ none)

pub requests_shortened : (bytes : List ℕ) → has_line_end bytes ≡ false → LONGEST_LINE < length bytes → (more : List ℕ) → requests_of (drop (length bytes - LONGEST_LINE - 1) bytes ++ more) ≡ requests_of (bytes ++ more)
requests_shortened bytes none long more =
    let count = length bytes - LONGEST_LINE - 1 in
    let left = length-drop count bytes in
    requests_alike more (drop count bytes) bytes (record { none = none_drop count bytes none; long = omega (arith, left, long) }) (record { none = none; long = long })

some_of : (o : Option Request) → is_some o ≡ true → (r : Request) × (o ≡ Some r)
some_of None e = absurd (grind (arith, e))
some_of (Some r) e = (r, refl)

pub none_of : (o : Option Request) → is_some o ≡ false → None ≡ o
none_of None e = refl
none_of (Some r) e = absurd (grind (arith, e))

-- ---- turns
module _ (start : Unread) (bytes : List ℕ) (closed : Bool) (same : ComesAs start (record { bytes = bytes; closed = closed })) (live : closed ≡ false) where
  while_live : (rest more : List ℕ) → to_come (record { bytes = rest; closed = closed }) more ≡ requests_of (rest ++ more)
  while_live rest more = ap (λ t. cond t [] (requests_of (rest ++ more))) live

  started : (more : List ℕ) → to_come start more ≡ requests_of (bytes ++ more)
  started more = sym (same more) ∙ while_live bytes more

  -- with no whole line
  pub front_turn : (rest : List ℕ) → has_line_end bytes ≡ false → ((more : List ℕ) → requests_of (rest ++ more) ≡ requests_of (bytes ++ more)) → length rest ≤ LONGEST_LINE + 1 → Waits start (record { bytes = rest; closed = closed })
  front_turn rest none shortened few = record {
    none = started [] ∙ ap requests_of (append-nil bytes) ∙ requests_front bytes none;
    same = λ more. while_live rest more ∙ shortened more ∙ sym (started more);
    few = λ _. few;
  }

  -- at a line that asks something
  pub found_next : (found read : List ℕ) (end : ℕ) → EndsLine (Some end) bytes → found ≡ bytes → read ≡ found → is_some (request_of_line (whole_line (take end read))) ≡ true → FindsNext start (record { bytes = found; closed = closed }) end
  found_next found read end ends is read_is asks =
      let r = some_of (request_of_line (whole_line (take end bytes))) (ap (λ xs. is_some (request_of_line (whole_line (take end xs)))) (sym (read_is ∙ is)) ∙ asks) in
      subst (λ (bs : List ℕ). FindsNext start (record { bytes = bs; closed = closed }) end) (sym is) (same, (r.0, record { live = live; ends = ends; asks = r.1 }))

  -- at a line that an LF ends
  module _ (read rest : List ℕ) (end : ℕ) (ends : EndsLine (Some end) bytes) (read_is : read ≡ bytes) (rest_is : rest ≡ drop (end + 1) bytes) where
    after_line : (asked : Option Request) → asked ≡ request_of_line (whole_line (take end read)) → (more : List ℕ) → to_come start more ≡ requests_after asked (rest ++ more)
    after_line asked asks more =
        started more
        ∙ requests_line bytes more end (record { within = ends.0; none = ends.1; ten = ends.2 })
        ∙ ap (λ a. requests_after a (drop (end + 1) bytes ++ more)) (sym (asks ∙ ap (λ xs. request_of_line (whole_line (take end xs))) read_is))
        ∙ ap (λ xs. requests_after asked (xs ++ more)) (sym rest_is)

    -- which is blank
    pub blank_turn : None ≡ request_of_line (whole_line (take end read)) → ComesAs start (record { bytes = rest; closed = closed })
    blank_turn none more = while_live rest more ∙ sym (after_line None none more)

    -- which is a request
    pub request_turn : (request : Request) (shut : Bool) → Some request ≡ request_of_line (whole_line (take end read)) → shut ≡ closes request → Gives start request (record { bytes = rest; closed = shut })
    request_turn request shut asks is = record {
      next = λ more. after_line (Some request) asks more ∙ ap (λ t. request ∷ cond t [] (requests_of (rest ++ more))) (sym is);
      last = λ closing more. ap (λ t. cond t [] (requests_of (rest ++ more))) (is ∙ closing);
    }

    pub rest_shorter : length rest < length bytes
    rest_shorter = let size = ap length rest_is ∙ length-drop (end + 1) bytes in let within = ends.0 in omega (arith, size, within)

-- the request of a line that was found is used up with it
pub next_given : (u : Unread) (rest : List ℕ) (end : ℕ) (request : Request) (shut : Bool) → IsNext u end request → rest ≡ drop (end + 1) u.bytes → shut ≡ closes request → Gives u request (record { bytes = rest; closed = shut })
next_given u rest end request shut n is shuts = request_turn u u.bytes u.closed (λ more. refl) n.live u.bytes rest end n.ends refl is request shut (sym n.asks) shuts
