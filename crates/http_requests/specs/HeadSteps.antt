-- What stands at the front of bytes, whatever more comes.
use Rattle.std.specs.Prelude.{◌≡◌, ℕ, ◌+◌, ◌≤◌, Bool, List, ◌++◌, length, None, Some}
use Rattle.http_requests.specs.declared.head_search.Front.{Front}
use Rattle.http_requests.specs.declared.head_search.Front.TheVariants.{Empty, Other, Short}
use Rattle.http_requests.specs.declared.head_search.Step.{Step}
use Rattle.http_requests.specs.declared.head_search.Step.TheVariants as step
use Rattle.http_requests.specs.HeadEnds.{empty_line, end_behind, head_end, IsSearched, Ends}

-- an empty line stands at the front or doesn't, whatever more comes; or that can't be told yet
abbrev pub Fronts : List ℕ → Front → Type 0
Fronts bytes (Empty len) = (len ≤ length bytes) × ((more : List ℕ) → empty_line (bytes ++ more) ≡ Some len)
Fronts bytes Other = (more : List ℕ) → empty_line (bytes ++ more) ≡ None
Fronts bytes Short = (empty_line bytes ≡ None) × (end_behind bytes ≡ None)

-- what a byte says, of bytes that were searched up to it
abbrev pub Steps : List ℕ → ℕ → Bool → Step → Type 0
Steps bytes at begun (step.More seen) = IsSearched bytes at begun → IsSearched bytes (at + 1) seen
Steps bytes at begun (step.End end) = IsSearched bytes at begun → Ends bytes (Some end)
Steps bytes at begun step.Short = IsSearched bytes at begun → head_end bytes ≡ None
