-- The bodies that are always the same.
use Rattle.std.specs.Prelude.{ℕ, List, codes}

abbrev pub version_body : List ℕ
version_body = codes "{\"profile\":\"integer\",\"version\":\"2\"}"

abbrev pub aggregators_body : List ℕ
aggregators_body = codes "[\"avg\",\"count\",\"max\",\"mimmax\",\"mimmin\",\"min\",\"none\",\"sum\",\"zimsum\"]"
