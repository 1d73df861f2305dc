-- `entry::fresh` meets its contract: what does not fit the field is refused; past that, the flags are set.
-- No loop.
-- Assumes nothing.
use Rattle.definitions.specs.Entry.{fits_field}
use Rattle.definitions.proofs.Geometry.{page_fits}
use Rattle.entry.proofs.Bits.{fresh_mask, fits_yes}
use Rattle.std.specs.Prelude.{Ok}
use Prim.Native.Nat.{◌^◌}
use native.Mathlib.Omega.{arith}
use mathlib.Core.Path.{ap}
use mathlib.Core.Bool.{and-false}
use borrow.Author.Tests.{le-ltb, ne_eqb}
use Rattle.entry.proofs.fresh.Goals as goal
use Rattle.entry.proofs.fresh.Goals.{then-addr-size-ne0-via-then-addr-size-ne0, then-addr-size-ne0-via-else-addr-size-ne0+then-addr-ge-ADDRESS_END}

pub returns-then-addr-size-ne0 : goal.returns-then-addr-size-ne0
unfolding fits_field
returns-then-addr-size-ne0 c = elim c.then-addr-size-ne0.branch [
  | then-addr-size-ne0-via-then-addr-size-ne0 w ↦ rw (ne_eqb _ _ w.if-addr-size-ne0.true)
  | then-addr-size-ne0-via-else-addr-size-ne0+then-addr-ge-ADDRESS_END w ↦ rw (le-ltb c.args.addr (2 ^ 52) (omega arith), and-false)
]

pub returns : goal.returns
returns c =
    let a = c.args in
    let whole = c.if-addr-size-ne0.false in
    rw (fits_yes a.size a.addr whole (omega arith))
    (ap Ok (fresh_mask a.addr a.flags (page_fits a.size a.addr whole c.requires.1) c.requires.2))
