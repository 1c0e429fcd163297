-- The code's family as that of the rows.
use Rattle.cycles.specs.Family.{Family}
use Rattle.model.specs.Cross.{cross}
use Rattle.rows.specs.declared.Family as code

-- The family that the code's numbers name.
abbrev pub family_of : code.Family → Family
family_of f = record { long = f.k; r = f.r; p = f.p; q = f.q; x = cross f.x }
