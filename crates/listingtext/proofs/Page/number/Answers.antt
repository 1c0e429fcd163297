-- `number`: a number of one digit is that digit.
use Rattle.std.proofs.Common.{length, sym, ap, ◌∙◌, arith}
use Rattle.housetext.proofs.Decimal.{decimal_small}
use Rattle.listingtext.proofs.Writing.{adds_as}
use Rattle.listingtext.proofs.Page.number.Goals as goal

pub byte-requires : goal.byte-requires
byte-requires c = omega (arith, c.requires, ap length (decimal_small c.args.x c.if-x-lt10.true))

pub returns-then-x-lt10-clause-adds : goal.returns-then-x-lt10-clause-adds
returns-then-x-lt10-clause-adds c = adds_as (sym (decimal_small c.args.x c.if-x-lt10.true)) c.byte.ensures.adds

pub returns-then-x-lt10-clause-value : goal.returns-then-x-lt10-clause-value
returns-then-x-lt10-clause-value c = omega (arith, c.byte.ensures.value, ap length (decimal_small c.args.x c.if-x-lt10.true))
