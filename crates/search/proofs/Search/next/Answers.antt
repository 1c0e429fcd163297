-- Either nothing is under the start any more, or the atoms at the last distance are looked at in the queue.
use Rattle.std.proofs.Common.{◌≡◌, refl, ap, ◌∙◌, arith}
use Prim.Native.Nat.{ℕ, ◌-◌, ◌^◌, ◌<◌}
use lib.Bits.{bit_and, bit_or, and_le_l, or_lt}
use Rattle.bondset.proofs.Laws.{pos_of_ne}
use Rattle.atoms.specs.Nets.{neighbours}
use Rattle.search.specs.Queue.{beside}
use Rattle.search.proofs.Waves.{and_not}
use Rattle.search.proofs.Fronts.{goes_none, found_room, goes_further}
use Rattle.search.proofs.Search.next.Goals as goal
use Rattle.search.proofs.Search.next.Goals.{After-beside}

pub returns-then-self-eq0 : goal.returns-then-self-eq0
returns-then-self-eq0 c =
    let a = c.args in
    goes_none (neighbours a.adj.now) a.pre a.self.now c.if-self-eq0.true

found : (c : After-beside)
    → let seen = c.args.self.now.seen in
    let reach = beside (neighbours c.args.adj.now) c.args.self.now.queue in
    bit_and c.beside.result (2 ^ 64 - 1 - seen) ≡ reach - bit_and reach seen
found c =
    let seen = c.args.self.now.seen in
    and_not c.beside.result seen c.beside.type_inv (omega arith) ∙ ap (λ (x : ℕ). x - bit_and x seen) c.beside.ensures

pub returns : goal.returns
returns c =
    let a = c.args in
    let s = a.self.now in
    let pos = pos_of_ne s.under c.if-self-eq0.false in
    let new = bit_and c.beside.result (2 ^ 64 - 1 - s.seen) in
    let seen' = bit_or s.seen new in
    let small : seen' < 2 ^ 64 = or_lt 64 s.seen new (omega arith) (omega (arith, and_le_l c.beside.result (2 ^ 64 - 1 - s.seen), c.beside.type_inv)) in
    let below = bit_and c.near.result a.pre in
    let under = and_not below seen' (omega (arith, and_le_l c.near.result a.pre, c.near.type_inv)) small in
    goes_further (neighbours a.adj.now) a.pre s pos (c.requires.ready pos) _ (found (goal.at.returns c).After-beside) _ refl c.append.ensures
    (under ∙ ap (λ (x : ℕ). bit_and x a.pre - bit_and (bit_and x a.pre) seen') c.near.ensures)

-- Last: what a wrong set breaks is to be refused first, and not the room, which it may have.
pub append-requires : goal.append-requires
append-requires c =
    let a = c.args in
    let pos = pos_of_ne a.self.now.under c.if-self-eq0.false in
    found_room (neighbours a.adj.now) a.pre a.self.now pos (c.requires.ready pos) _ (found (goal.at.append-requires c).After-beside)
