-- Each reader gives what the grammar's piece is, and nothing else.
use Rattle.std.proofs.Common.{◌≡◌, ℕ, zero, suc, ◌+◌, ◌<◌, ◌≤◌, Bool, true, false, cond, List, [], ◌∷◌, ◌++◌, length, take, drop, refl, sym, ap, subst, ◌∙◌, arith, append_assoc, Option, Some, None}
use Rattle.std.specs.Prelude.{nat_eq, not, ◌||◌, IsTrue, codes, IsUtf8}
use Rattle.std.specs.Str.{is_utf8}
use Rattle.std.specs.List.{flat_map}
use Rattle.std.proofs.lemmas.Str.{IsUtf8-from_is_utf8, is_utf8-from_IsUtf8}
use Rattle.std.proofs.lemmas.List.Elements.{All-nil, All-cons, All-head, All-tail}
use Rattle.std.proofs.lemmas.List.{take-append-drop, length-append}
use Rattle.std.specs.Cmp.Lexicographic.{bytes_decides}
use Rattle.httparse.specs.Grammar.{is_token_byte, is_uri_byte, is_value_byte, AllPass, LineEnd, crlf, lf, print_end, print_blank, Field, print_field, IsField, print_section}
use Rattle.httparse.specs.Pieces.{Piece, Then, Stops, is_newline, Newline, Blank, Word, Target, Version, FieldLine, Section, RequestStart}
use Rattle.httparse.proofs.GrammarLemmas.{cons-append}
use Rattle.tsd_base.specs.Tags.{is_same}
use Rattle.http_requests.specs.HeadReader.{Reader, joined, after_first, in_order, lf_at, newline_at, onto, run_at, behind, word_by, word_at, utf8_only, target_at, minor_at, version_at, with_line, lines_by, blank_lines, stops, blank_at, start_at, ended_by, field_by, field_at, with_field, section_by, section_lines, section_at}

-- what is read is the piece, and the piece is read
pub record Reads {A : Type 0} (G : Piece A) (r : Reader A) : Type 0 where
  pub gives : (text : List ℕ) (a : A) (rest : List ℕ) → r text ≡ Some (a, rest) → G a text rest
  pub finds : (text : List ℕ) (a : A) (rest : List ℕ) → G a text rest → r text ≡ Some (a, rest)

same_bytes : (x y : List ℕ) → is_same x y ≡ true → x ≡ y
same_bytes x y = (bytes_decides x y).0

-- ---- one piece after another

-- what was read of both
pub record Both {A B : Type 0} (o : Option (A × List ℕ)) (second : Reader B) (ab : A × B) (rest : List ℕ) : Type 0 where
  pub middle : List ℕ
  pub first : o ≡ Some (ab.0, middle)
  pub next : second middle ≡ Some (ab.1, rest)

some_pair : {A : Type 0} (p : A × List ℕ) (a : A) (r : List ℕ) → Some p ≡ Some (a, r) → p ≡ (a, r)
some_pair p a r e = cc

joined_cases : {A B : Type 0} (a : A) (o : Option (B × List ℕ)) (ab : A × B) (rest : List ℕ) → joined a o ≡ Some (ab, rest) → (a ≡ ab.0) × (o ≡ Some (ab.1, rest))
joined_cases a None ab rest e = absurd (cc)
joined_cases {A} {B} a (Some q) ab rest e =
    let p : ((a, q.0), q.1) ≡ (ab, rest) = some_pair ((a, q.0), q.1) ab rest e in
    (ap (λ (x : (A × B) × List ℕ). x.0.0) p, λ i. Some ((p i).0.1, (p i).1))

both : {A B : Type 0} (o : Option (A × List ℕ)) (second : Reader B) (ab : A × B) (rest : List ℕ) → after_first o second ≡ Some (ab, rest) → Both o second ab rest
both None second ab rest e = absurd (cc)
both (Some p) second ab rest e =
    let j = joined_cases p.0 (second p.1) ab rest e in
    record { middle = p.1; first = λ i. Some (j.0 i, p.1); next = j.1 }

pub Reads_order : {A B : Type 0} {G : Piece A} {H : Piece B} {r : Reader A} {s : Reader B} → Reads G r → Reads H s → Reads (Then G H) (in_order r s)
Reads_order {A} {B} {G} {H} {r} {s} g h = record {
  gives = λ text ab rest e.
      let b = both (r text) s ab rest e in
      (b.middle, g.gives text ab.0 b.middle b.first, h.gives b.middle ab.1 rest b.next);
  finds = λ text ab rest x.
      ap (λ o. after_first o s) (g.finds text ab.0 x.0 x.1) ∙ ap (joined ab.0) (h.finds x.0 ab.1 rest x.2);
}

-- ---- line ends

first_is : (b : ℕ) (n : ℕ) → nat_eq b n ≡ true → b ≡ n
first_is b n e = grind (arith, e)

lf_gives : (text : List ℕ) (a : LineEnd) (rest : List ℕ) → lf_at text ≡ Some (a, rest) → (a ≡ crlf) × (text ≡ 10 ∷ rest)
lf_gives [] a rest e = absurd (cc)
lf_gives (b ∷ text) a rest e = by (nat_eq b 10) refl e
  where
    by : (t : Bool) → nat_eq b 10 ≡ t → cond {A = Option (LineEnd × List ℕ)} t (Some (crlf, text)) None ≡ Some (a, rest) → (a ≡ crlf) × (b ∷ text ≡ 10 ∷ rest)
    by true is got = let p : (crlf, text) ≡ (a, rest) = some_pair (crlf, text) a rest got in (λ i. (sym p i).0, λ i. first_is b 10 is i ∷ (p i).1)
    by false is got = absurd (cc)

newline_gives : (text : List ℕ) (a : LineEnd) (rest : List ℕ) → newline_at text ≡ Some (a, rest) → Newline a text rest
newline_gives [] a rest e = absurd (cc)
newline_gives (b ∷ text) a rest e = by (nat_eq b 10) (nat_eq b 13) refl refl e
  where
    by : (t u : Bool) → nat_eq b 10 ≡ t → nat_eq b 13 ≡ u → cond {A = Option (LineEnd × List ℕ)} t (Some (lf, text)) (cond u (lf_at text) None) ≡ Some (a, rest) → b ∷ text ≡ print_end a ++ rest
    by true u is other got = let p : (lf, text) ≡ (a, rest) = some_pair (lf, text) a rest got in (λ i. first_is b 10 is i ∷ (p i).1) ∙ ap (λ e. print_end e ++ rest) (λ i. (p i).0)
    by false true is other got =
        let l = lf_gives text a rest got in
        (λ i. first_is b 13 other i ∷ l.1 i) ∙ ap (λ e. print_end e ++ rest) (sym l.0)
    by false false is other got = absurd (cc)

newline_finds : (text : List ℕ) (a : LineEnd) (rest : List ℕ) → text ≡ print_end a ++ rest → newline_at text ≡ Some (a, rest)
newline_finds text crlf rest e = ap newline_at e
newline_finds text lf rest e = ap newline_at e

pub Reads_newline : Reads Newline newline_at
Reads_newline = record { gives = newline_gives; finds = newline_finds }

-- ---- runs and words

pub record IsRun (test : ℕ → Bool) (text : List ℕ) (p : List ℕ × List ℕ) : Type 0 where
  pub pass : AllPass test p.0
  pub whole : text ≡ p.0 ++ p.1

pub run_is : (test : ℕ → Bool) (text : List ℕ) → IsRun test text (run_at test text)
unfolding run_at
run_is test [] = record { pass = All-nil _; whole = refl }
run_is test (b ∷ text) = by (test b) refl (run_is test text)
  where
    by : (t : Bool) → test b ≡ t → IsRun test text (run_at test text) → IsRun test (b ∷ text) (cond t (onto b (run_at test text)) ([], b ∷ text))
    by true is more = record { pass = All-cons (λ b. IsTrue (test b)) b (run_at test text).0 is more.pass; whole = ap (λ t. b ∷ t) more.whole }
    by false is more = record { pass = All-nil _; whole = refl }

pub run_finds : (test : ℕ → Bool) (run rest : List ℕ) → AllPass test run → stops test rest ≡ true → run_at test (run ++ rest) ≡ (run, rest)
unfolding run_at
run_finds test [] [] pass stop = refl
run_finds test [] (b ∷ rest) pass stop = by (test b) stop
  where
    by : (t : Bool) → not t ≡ true → cond t (onto b (run_at test rest)) ([], b ∷ rest) ≡ ([], b ∷ rest)
    by true e = absurd (cc)
    by false e = refl
run_finds test (x ∷ run) rest pass stop =
    let here : test x ≡ true = All-head (λ b. IsTrue (test b)) x run pass in
    let more = run_finds test run rest (All-tail (λ b. IsTrue (test b)) x run pass) stop in
    ap (λ t. cond t (onto x (run_at test (run ++ rest))) ([], x ∷ (run ++ rest))) here ∙ ap (onto x) more

behind_gives : (stop : ℕ) (text rest : List ℕ) → behind stop text ≡ Some rest → text ≡ stop ∷ rest
behind_gives stop [] rest e = absurd (cc)
behind_gives stop (b ∷ text) rest e = by (nat_eq b stop) refl e
  where
    by : (t : Bool) → nat_eq b stop ≡ t → cond t (Some text) None ≡ Some rest → b ∷ text ≡ stop ∷ rest
    by true is got = let same : text ≡ rest = cc in λ i. first_is b stop is i ∷ same i
    by false is got = absurd (cc)

same_test : (n : ℕ) → nat_eq n n ≡ true
same_test n = grind arith

behind_finds : (stop : ℕ) (rest : List ℕ) → behind stop (stop ∷ rest) ≡ Some rest
behind_finds stop rest = ap (λ t. cond t (Some rest) None) (same_test stop)

has_some : (b : ℕ) (w : List ℕ) → 0 < length (b ∷ w)
has_some b w = omega arith

word_by_gives : (w : List ℕ) (o : Option (List ℕ)) (a rest : List ℕ) → word_by w o ≡ Some (a, rest) → (0 < length a) × (w ≡ a) × (o ≡ Some rest)
word_by_gives w None a rest e = absurd (cc)
word_by_gives [] (Some r) a rest e = absurd (cc)
word_by_gives (b ∷ w) (Some r) a rest e =
    let p : (b ∷ w, r) ≡ (a, rest) = some_pair (b ∷ w, r) a rest e in
    let same : b ∷ w ≡ a = λ i. (p i).0 in
    (subst (λ (x : List ℕ). 0 < length x) same (has_some b w), same, λ i. Some (p i).1)

word_by_finds : (a rest : List ℕ) → 0 < length a → word_by a (Some rest) ≡ Some (a, rest)
word_by_finds [] rest lt = absurd (omega arith)
word_by_finds (b ∷ a) rest lt = refl

pub Reads_word : (test : ℕ → Bool) (stop : ℕ) → test stop ≡ false → Reads (Word test stop) (word_at test stop)
Reads_word test stop fails = record {
  gives = λ text a rest e.
      let w = word_by_gives (run_at test text).0 (behind stop (run_at test text).1) a rest e in
      let r = run_is test text in
      (w.0, subst (λ (x : List ℕ). AllPass test x) w.1 r.pass, r.whole ∙ ap (λ (x : List ℕ). x ++ (run_at test text).1) w.1 ∙ ap (λ (x : List ℕ). a ++ x) (behind_gives stop (run_at test text).1 rest w.2));
  finds = λ text a rest x.
      let r : run_at test text ≡ (a, stop ∷ rest) = ap (run_at test) x.2 ∙ run_finds test a (stop ∷ rest) x.1 (ap not fails) in
      ap (λ (p : List ℕ × List ℕ). word_by p.0 (behind stop p.1)) r ∙ ap (word_by a) (behind_finds stop rest) ∙ word_by_finds a rest x.0;
}

-- ---- the target

utf8_gives : (o : Option (List ℕ × List ℕ)) (a rest : List ℕ) → utf8_only o ≡ Some (a, rest) → (o ≡ Some (a, rest)) × IsUtf8 a
utf8_gives None a rest e = absurd (cc)
utf8_gives (Some p) a rest e = by (is_utf8 p.0) refl e
  where
    by : (t : Bool) → is_utf8 p.0 ≡ t → cond t (Some p) None ≡ Some (a, rest) → (Some p ≡ Some (a, rest)) × IsUtf8 a
    by true is got = let q : p ≡ (a, rest) = some_pair p a rest got in (got, subst IsUtf8 (λ i. (q i).0) (IsUtf8-from_is_utf8 p.0 is))
    by false is got = absurd (cc)

utf8_finds : (a rest : List ℕ) → IsUtf8 a → utf8_only (Some (a, rest)) ≡ Some (a, rest)
utf8_finds a rest u = ap (λ t. cond t (Some (a, rest)) None) (is_utf8-from_IsUtf8 a u)

uri_stops : is_uri_byte 32 ≡ false
uri_stops = refl

pub Reads_target : Reads Target target_at
Reads_target =
    let w = Reads_word is_uri_byte 32 uri_stops in
    record {
      gives = λ text a rest e. let u = utf8_gives (word_at is_uri_byte 32 text) a rest e in (w.gives text a rest u.0, u.1);
      finds = λ text a rest x. ap utf8_only (w.finds text a rest x.0) ∙ utf8_finds a rest x.1;
    }

-- ---- the version

minor_gives : (text : List ℕ) (a : ℕ) (rest : List ℕ) → minor_at text ≡ Some (a, rest) → (a ≤ 1) × (text ≡ (48 + a) ∷ rest)
minor_gives [] a rest e = absurd (cc)
minor_gives (b ∷ text) a rest e = by (nat_eq b 48) (nat_eq b 49) refl refl e
  where
    Q : ℕ → Type 0
    Q m = (m ≤ 1) × (b ∷ text ≡ (48 + m) ∷ rest)

    some_number : (p : ℕ × List ℕ) → Some p ≡ Some (a, rest) → p ≡ (a, rest)
    some_number p got = cc

    by : (t u : Bool) → nat_eq b 48 ≡ t → nat_eq b 49 ≡ u → cond {A = Option (ℕ × List ℕ)} t (Some (0, text)) (cond {A = Option (ℕ × List ℕ)} u (Some (1, text)) None) ≡ Some (a, rest) → (a ≤ 1) × (b ∷ text ≡ (48 + a) ∷ rest)
    by true u is other got = let p : (0, text) ≡ (a, rest) = some_number (0, text) got in subst Q (λ i. (p i).0) (omega arith, λ i. first_is b 48 is i ∷ (p i).1)
    by false true is other got = let p : (1, text) ≡ (a, rest) = some_number (1, text) got in subst Q (λ i. (p i).0) (omega arith, λ i. first_is b 49 other i ∷ (p i).1)
    by false false is other got = absurd (cc)

minor_finds : (a : ℕ) (rest : List ℕ) → a ≤ 1 → minor_at ((48 + a) ∷ rest) ≡ Some (a, rest)
minor_finds zero rest le = refl
minor_finds (suc zero) rest le = refl
minor_finds (suc (suc a)) rest le = absurd (omega arith)

version_gives : (text : List ℕ) (a : ℕ) (rest : List ℕ) → version_at text ≡ Some (a, rest) → Version a text rest
version_gives text a rest e = by (is_same (take 7 text) (codes "HTTP/1.")) refl e
  where
    by : (t : Bool) → is_same (take 7 text) (codes "HTTP/1.") ≡ t → cond t (minor_at (drop 7 text)) None ≡ Some (a, rest) → Version a text rest
    by true is got =
        let m = minor_gives (drop 7 text) a rest got in
        (m.0, sym (take-append-drop 7 text) ∙ ap (λ (x : List ℕ). x ++ drop 7 text) (same_bytes (take 7 text) (codes "HTTP/1.") is) ∙ ap (λ (x : List ℕ). codes "HTTP/1." ++ x) m.1)
    by false is got = absurd (cc)

version_finds : (text : List ℕ) (a : ℕ) (rest : List ℕ) → Version a text rest → version_at text ≡ Some (a, rest)
version_finds text a rest x = ap version_at x.1 ∙ minor_finds a rest x.0

pub Reads_version : Reads Version version_at
Reads_version = record { gives = version_gives; finds = version_finds }

-- ---- the empty lines in front

blank_whole : (k : ℕ) (text : List ℕ) → text ≡ print_blank (blank_lines k text).0 ++ (blank_lines k text).1
unfolding blank_lines
blank_whole zero text = refl
blank_whole (suc k) text = by (newline_at text) refl (blank_whole k)
  where
    P : List LineEnd × List ℕ → Type 0
    P p = text ≡ print_blank p.0 ++ p.1

    by : (o : Option (LineEnd × List ℕ)) → newline_at text ≡ o → ((xs : List ℕ) → xs ≡ print_blank (blank_lines k xs).0 ++ (blank_lines k xs).1) → P (lines_by o (blank_lines k) text)
    by None is step = refl
    by (Some p) is step =
        newline_gives text p.0 p.1 is ∙ ap (λ (x : List ℕ). print_end p.0 ++ x) (step p.1)
        ∙ sym (append_assoc (print_end p.0) (print_blank (blank_lines k p.1).0) (blank_lines k p.1).1)

-- what begins with another byte than CR and LF has no line end in front
newline_none : (text : List ℕ) → stops is_newline text ≡ true → newline_at text ≡ None
newline_none [] s = absurd (cc)
newline_none (b ∷ text) s = by (nat_eq b 10) (nat_eq b 13) s
  where
    by : (t u : Bool) → not (u || t) ≡ true → cond {A = Option (LineEnd × List ℕ)} t (Some (lf, text)) (cond u (lf_at text) None) ≡ None
    by t true e = absurd (cc)
    by true false e = absurd (cc)
    by false false e = refl

blank_found : (k : ℕ) (ends : List LineEnd) (rest : List ℕ) → length ends ≤ k → stops is_newline rest ≡ true → blank_lines k (print_blank ends ++ rest) ≡ (ends, rest)
unfolding blank_lines
blank_found zero [] rest le s = refl
blank_found zero (e ∷ ends) rest le s = absurd (omega arith)
blank_found (suc k) [] rest le s = ap (λ o. lines_by o (blank_lines k) rest) (newline_none rest s)
blank_found (suc k) (e ∷ ends) rest le s =
    let front : print_blank (e ∷ ends) ++ rest ≡ print_end e ++ (print_blank ends ++ rest) = append_assoc (print_end e) (print_blank ends) rest in
    ap (λ o. lines_by o (blank_lines k) (print_blank (e ∷ ends) ++ rest)) (newline_finds (print_blank (e ∷ ends) ++ rest) e (print_blank ends ++ rest) front)
    ∙ ap (with_line e) (blank_found k ends rest (omega arith) s)

end_long : (e : LineEnd) → 1 ≤ length (print_end e)
end_long crlf = omega arith
end_long lf = omega arith

blank_long : (ends : List LineEnd) → length ends ≤ length (print_blank ends)
blank_long [] = omega arith
blank_long (e ∷ ends) = let l = end_long e in let m = blank_long ends in let a = length-append (print_end e) (print_blank ends) in omega (arith, l, m, a)

stops_is : (test : ℕ → Bool) (text : List ℕ) → Stops test text → stops test text ≡ true
stops_is test [] s = absurd s
stops_is test (b ∷ text) s = ap not s

not_false : (t : Bool) → not t ≡ true → t ≡ false
not_false true e = sym e
not_false false e = refl

is_stops : (test : ℕ → Bool) (text : List ℕ) → stops test text ≡ true → Stops test text
is_stops test [] e = absurd (cc)
is_stops test (b ∷ text) e = not_false (test b) e

blank_gives : (text : List ℕ) (a : List LineEnd) (rest : List ℕ) → blank_at text ≡ Some (a, rest) → Blank a text rest
blank_gives text a rest e = by (stops is_newline (blank_lines (length text) text).1) refl e
  where
    P : List LineEnd × List ℕ → Type 0
    P p = Blank p.0 text p.1

    by : (t : Bool) → stops is_newline (blank_lines (length text) text).1 ≡ t → cond t (Some (blank_lines (length text) text)) None ≡ Some (a, rest) → Blank a text rest
    by true is got = subst P (some_pair (blank_lines (length text) text) a rest got) (blank_whole (length text) text, is_stops is_newline (blank_lines (length text) text).1 is)
    by false is got = absurd (cc)

blank_finds : (text : List ℕ) (a : List LineEnd) (rest : List ℕ) → Blank a text rest → blank_at text ≡ Some (a, rest)
blank_finds text a rest x =
    let s = stops_is is_newline rest x.1 in
    let le : length a ≤ length text = (let l = blank_long a in let h = length-append (print_blank a) rest in let k = ap length x.0 in omega (arith, l, h, k)) in
    let lines : blank_lines (length text) text ≡ (a, rest) = ap (blank_lines (length text)) x.0 ∙ blank_found (length text) a rest le s in
    ap (λ p. cond (stops is_newline p.1) (Some p) None) lines ∙ ap (λ t. cond t (Some (a, rest)) None) s

pub Reads_blank : Reads Blank blank_at
Reads_blank = record { gives = blank_gives; finds = blank_finds }

token_stops : is_token_byte 32 ≡ false
unfolding is_token_byte
token_stops = refl

token_colon : is_token_byte 58 ≡ false
unfolding is_token_byte
token_colon = refl

pub Reads_start : Reads RequestStart start_at
Reads_start = Reads_order Reads_blank (Reads_order (Reads_word is_token_byte 32 token_stops) (Reads_order Reads_target (Reads_order Reads_version Reads_newline)))

-- ---- fields

regroup : (a b c r : List ℕ) → (a ++ 58 ∷ b ++ c) ++ r ≡ a ++ 58 ∷ (b ++ (c ++ r))
regroup a b c r = simp (append_assoc, cons-append)

regroup_section : (a b c r : List ℕ) → ((a ++ b) ++ c) ++ r ≡ a ++ ((b ++ c) ++ r)
regroup_section a b c r = simp append_assoc

ended_gives : (name raw : List ℕ) (o : Option (LineEnd × List ℕ)) (f : Field) (rest : List ℕ) → ended_by name raw o ≡ Some (f, rest) → (name ≡ f.name) × (raw ≡ f.raw) × (o ≡ Some (f.end, rest))
ended_gives name raw None f rest e = absurd (cc)
ended_gives name raw (Some e) f rest got =
    let p : (record { name = name; raw = raw; end = e.0 }, e.1) ≡ (f, rest) = some_pair (record { name = name; raw = raw; end = e.0 }, e.1) f rest got in
    (λ i. (p i).0.name, λ i. (p i).0.raw, λ i. Some ((p i).0.end, (p i).1))

field_gives : (text : List ℕ) (f : Field) (rest : List ℕ) → field_at text ≡ Some (f, rest) → FieldLine f text rest
field_gives text f rest e = by (word_at is_token_byte 58 text) refl e
  where
    by : (o : Option (List ℕ × List ℕ)) → word_at is_token_byte 58 text ≡ o → field_by o ≡ Some (f, rest) → FieldLine f text rest
    by None is got = absurd (cc)
    by (Some p) is got =
        let r = run_is is_value_byte p.1 in
        let g = ended_gives p.0 (run_at is_value_byte p.1).0 (newline_at (run_at is_value_byte p.1).1) f rest got in
        let w = (Reads_word is_token_byte 58 token_colon).gives text p.0 p.1 is in
        let n = newline_gives (run_at is_value_byte p.1).1 f.end rest g.2 in
        let line : p.1 ≡ f.raw ++ (print_end f.end ++ rest) = r.whole ∙ ap (λ (x : List ℕ). x ++ (run_at is_value_byte p.1).1) g.1 ∙ ap (λ (x : List ℕ). f.raw ++ x) n in
        let all : text ≡ f.name ++ 58 ∷ (f.raw ++ (print_end f.end ++ rest)) = w.2 ∙ ap (λ (x : List ℕ). x ++ 58 ∷ p.1) g.0 ∙ ap (λ (x : List ℕ). f.name ++ 58 ∷ x) line in (
          record { name = subst (λ (x : List ℕ). (0 < length x) × AllPass is_token_byte x) g.0 (w.0, w.1); raw = subst (λ (x : List ℕ). AllPass is_value_byte x) g.1 r.pass },
          all ∙ sym (regroup f.name f.raw (print_end f.end) rest),
        )

value_end : (e : LineEnd) (rest : List ℕ) → stops is_value_byte (print_end e ++ rest) ≡ true
value_end crlf rest = refl
value_end lf rest = refl

field_finds : (text : List ℕ) (f : Field) (rest : List ℕ) → FieldLine f text rest → field_at text ≡ Some (f, rest)
field_finds text f rest x =
    let all : text ≡ f.name ++ 58 ∷ (f.raw ++ (print_end f.end ++ rest)) = x.1 ∙ regroup f.name f.raw (print_end f.end) rest in
    let w = (Reads_word is_token_byte 58 token_colon).finds text f.name (f.raw ++ (print_end f.end ++ rest)) (x.0.name.0, x.0.name.1, all) in
    let r = run_finds is_value_byte f.raw (print_end f.end ++ rest) x.0.raw (value_end f.end rest) in
    ap field_by w ∙ ap (λ p. ended_by f.name p.0 (newline_at p.1)) r ∙ ap (ended_by f.name f.raw) (newline_finds (print_end f.end ++ rest) f.end rest refl)

-- ---- sections

section_gives : (k : ℕ) (text : List ℕ) (a : List Field × LineEnd) (rest : List ℕ) → section_lines k text ≡ Some (a, rest) → Section a text rest
unfolding section_lines
section_gives zero text a rest e = absurd (cc)
section_gives (suc k) text a rest e = by (newline_at text) (field_at text) refl refl (section_gives k) e
  where
    P : (List Field × LineEnd) × List ℕ → Type 0
    P p = Section p.0 text p.1

    more : (f : Field) (rear : List ℕ) (o : Option ((List Field × LineEnd) × List ℕ)) → FieldLine f text rear → ((b : List Field × LineEnd) (r : List ℕ) → o ≡ Some (b, r) → Section b rear r) → with_field f o ≡ Some (a, rest) → Section a text rest
    more f rear None line step got = absurd (cc)
    more f rear (Some p) line step got =
        let s = step p.0 p.1 refl in
        subst P (some_pair ((f ∷ p.0.0, p.0.1), p.1) a rest got)
        (All-cons IsField f p.0.0 line.0 s.0, line.1 ∙ ap (λ (x : List ℕ). print_field f ++ x) s.1 ∙ sym (regroup_section (print_field f) (flat_map print_field p.0.0) (print_end p.0.1) p.1))

    by : (o : Option (LineEnd × List ℕ)) (p : Option (Field × List ℕ)) → newline_at text ≡ o → field_at text ≡ p → ((xs : List ℕ) (b : List Field × LineEnd) (r : List ℕ) → section_lines k xs ≡ Some (b, r) → Section b xs r) → section_by o p (section_lines k) ≡ Some (a, rest) → Section a text rest
    by (Some e) p is other step got = subst P (some_pair (([], e.0), e.1) a rest got) (All-nil IsField, newline_gives text e.0 e.1 is)
    by None None is other step got = absurd (cc)
    by None (Some f) is other step got = more f.0 f.1 (section_lines k f.1) (field_gives text f.0 f.1 other) (step f.1) got

no_token_lf : is_token_byte 10 ≡ false
unfolding is_token_byte
no_token_lf = refl

no_token_cr : is_token_byte 13 ≡ false
unfolding is_token_byte
no_token_cr = refl

token_starts : (b : ℕ) → is_token_byte b ≡ true → not (is_newline b) ≡ true
token_starts b e = by (nat_eq b 10) (nat_eq b 13) refl refl
  where
    by : (t u : Bool) → nat_eq b 10 ≡ t → nat_eq b 13 ≡ u → not (u || t) ≡ true
    by true u is other = absurd (let x = sym e ∙ ap is_token_byte (first_is b 10 is) ∙ no_token_lf in cc)
    by false true is other = absurd (let x = sym e ∙ ap is_token_byte (first_is b 13 other) ∙ no_token_cr in cc)
    by false false is other = refl

-- a field line doesn't begin with a line end
field_no_newline : (text : List ℕ) (f : Field) (rest : List ℕ) → FieldLine f text rest → newline_at text ≡ None
field_no_newline text f rest x = by f.name x.0.name x.1
  where
    by : (name : List ℕ) → (0 < length name) × AllPass is_token_byte name → text ≡ (name ++ 58 ∷ f.raw ++ print_end f.end) ++ rest → newline_at text ≡ None
    by [] n e = absurd (let z = n.0 in omega (arith, z))
    by (b ∷ name) n e = ap newline_at e ∙ newline_none (b ∷ ((name ++ 58 ∷ f.raw ++ print_end f.end) ++ rest)) (token_starts b (All-head (λ b. IsTrue (is_token_byte b)) b name n.1))

section_found : (k : ℕ) (text : List ℕ) (fields : List Field) (last : LineEnd) (rest : List ℕ) → length fields < k → Section (fields, last) text rest → section_lines k text ≡ Some ((fields, last), rest)
unfolding section_lines
section_found zero text fields last rest lt x = absurd (omega arith)
section_found (suc k) text [] last rest lt x = ap (λ o. section_by o (field_at text) (section_lines k)) (newline_finds text last rest x.1)
section_found (suc k) text (f ∷ fields) last rest lt x =
    let whole : text ≡ print_field f ++ (print_section fields last ++ rest) = x.1 ∙ regroup_section (print_field f) (flat_map print_field fields) (print_end last) rest in
    let line : FieldLine f text (print_section fields last ++ rest) = (All-head IsField f fields x.0, whole) in
    ap (λ o. section_by o (field_at text) (section_lines k)) (field_no_newline text f (print_section fields last ++ rest) line)
    ∙ ap (λ p. section_by None p (section_lines k)) (field_finds text f (print_section fields last ++ rest) line)
    ∙ ap (with_field f) (section_found k (print_section fields last ++ rest) fields last rest (omega arith) (All-tail IsField f fields x.0, refl))

field_long : (f : Field) → 1 ≤ length (print_field f)
field_long f = simp length-append (omega arith)

fields_long : (fields : List Field) → length fields ≤ length (flat_map print_field fields)
fields_long [] = omega arith
fields_long (f ∷ fields) = let l = field_long f in let m = fields_long fields in let a = length-append (print_field f) (flat_map print_field fields) in omega (arith, l, m, a)

pub Reads_section : Reads Section section_at
Reads_section = record {
  gives = λ text a rest e. section_gives (suc (length text)) text a rest e;
  finds = λ text a rest x.
      let l = fields_long a.0 in
      let h = length-append (flat_map print_field a.0) (print_end a.1) in
      let g = length-append (print_section a.0 a.1) rest in
      let k = ap length x.1 in
      let lt : length a.0 < suc (length text) = omega (arith, l, h, g, k) in
      section_found (suc (length text)) text a.0 a.1 rest lt x;
}
