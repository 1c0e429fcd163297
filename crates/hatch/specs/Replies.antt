-- What a reply says, and the reply that says it.
use Rattle.std.specs.Prelude.{ℕ, zero, suc}
use Rattle.answers.specs.Answered.{Told, full, refused}
use Rattle.hatch.specs.declared.Reply.{Reply}

-- A reply read by its refusal: with 0 it is the full answer, with any other number that refusal.
unfoldable pub told_as : ℕ → Reply → Told
told_as zero r = full r.cyclomatic r.families r.classes r.total r.rings r.size
told_as (suc k) r = refused (suc k) r.at

-- What a reply says.
abbrev pub told_by : Reply → Told
told_by r = told_as r.refusal r

-- The one reply for what is told: "A refused call answers its number and "at" only", and a full answer has refusal 0 and "at" 0.
unfoldable pub reply_of : Told → Reply
reply_of (full cyclomatic families classes total rings size) =
    record { refusal = 0; at = 0; cyclomatic = cyclomatic; families = families; classes = classes; total = total; rings = rings; size = size }
reply_of (refused number at) = record { refusal = number; at = at; cyclomatic = 0; families = 0; classes = 0; total = 0; rings = 0; size = 0 }

-- What is told, with another size.
unfoldable pub with_size : Told → ℕ → Told
with_size (full cyclomatic families classes total rings size) other = full cyclomatic families classes total rings other
with_size (refused number at) other = refused number at
