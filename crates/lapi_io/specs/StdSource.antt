-- What callers see of a reader of std.
use Rattle.std.specs.Prelude.{ℕ}
use Rattle.lapi_io.specs.declared.std_source.StdSource.{StdSource}

abbrev pub reader_of : {R : Type 0} → StdSource R → R
reader_of source = source.reader

-- how many reads failed
abbrev pub faults_of : {R : Type 0} → StdSource R → ℕ
faults_of source = source.faults
