-- What is published behind the replies of a connection.
use Rattle.std.specs.Prelude.{◌≡◌, ◌⊎◌, ℕ, List, [], ◌∷◌, ◌++◌, codes, decimal, length, Option}
use Rattle.std.specs.Io.KnownBytes.{Appends}
use Rattle.tsd_base.specs.Points.{DataPoint}
use Rattle.tsd_daemon.specs.declared.served.Served.{Served}
use Rattle.tsd_daemon.specs.declared.served.Served.TheVariants as answer
use Rattle.point_feed.specs.FedEntries.{lines_of}

-- the line that tells how many points are published
abbrev pub head_line : ℕ → List ℕ
head_line count = codes "published " ++ (decimal count ++ 10 ∷ [])

-- that line, and so many lines
abbrev pub published_text : ℕ → List ℕ → List ℕ
published_text count lines = head_line count ++ lines

-- the number of points and their lines
abbrev pub published : List DataPoint → List ℕ
published points = published_text (length points) (lines_of points)

-- a front of the text
abbrev pub IsFront : List ℕ → List ℕ → Type 0
IsFront front text = (rest : List ℕ) × (text ≡ front ++ rest)

-- the sink failed behind a front of the text, or memory ran out before its first byte
abbrev pub CutsShort : Served → List ℕ → List ℕ → Type 0
CutsShort answer.WriteFault text given = IsFront given text
CutsShort answer.OutOfMemory text given = given ≡ []
CutsShort result text given = ⊥

-- the text was given and all ended as the connection did, or it was cut short
abbrev pub TellsAll : Served → Served → List ℕ → List ℕ → Type 0
TellsAll ended result text given = ((result ≡ ended) × (given ≡ text)) ⊎ CutsShort result text given

-- so it is where a connection ended by itself; else nothing is given
abbrev pub Tells : Served → Served → List ℕ → List ℕ → Type 0
Tells answer.End result text given = TellsAll answer.End result text given
Tells answer.Exit result text given = TellsAll answer.Exit result text given
Tells answer.Die result text given = TellsAll answer.Die result text given
Tells answer.Closed result text given = TellsAll answer.Closed result text given
Tells ended result text given = (result ≡ ended) × (given ≡ [])

-- these bytes were given
abbrev pub Gave : (List ℕ → Type 0) → (held held' : Option (List ℕ)) → Type 0
Gave P held held' = (given : List ℕ) × Appends held held' given × P given

abbrev pub GavePart : List ℕ → (held held' : Option (List ℕ)) → Type 0
GavePart text held held' = Gave (λ given. IsFront given text) held held'

abbrev pub GaveWhole : Served → Served → List ℕ → (held held' : Option (List ℕ)) → Type 0
GaveWhole ended result text held held' = Gave (TellsAll ended result text) held held'

abbrev pub GavePublished : Served → Served → List ℕ → (held held' : Option (List ℕ)) → Type 0
GavePublished ended result text held held' = Gave (Tells ended result text) held held'
