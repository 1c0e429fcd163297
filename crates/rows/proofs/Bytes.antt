-- Class rows tell a rank modulo 256 and a number of families modulo 65536.
use Rattle.std.proofs.Common.{◌≡◌, ℕ, ◌/◌, ◌%◌, arith}
use Rattle.rows.specs.Rows.{class_bytes}

pub class_bytes_same : (k r r' f f' : ℕ) → r % 256 ≡ r' % 256 → f % 65536 ≡ f' % 65536 → class_bytes k r f ≡ class_bytes k r' f'
unfolding class_bytes
class_bytes_same k r r' f f' p q =
    let low : f % 256 ≡ f' % 256 = omega arith in
    let high : f / 256 % 256 ≡ f' / 256 % 256 = omega arith in
    rw (p, low, high, q)
