-- `PageTableEntry::set_addr` meets its contract: an address with a bit outside the field is refused, any other is set. No loop.
-- Assumes nothing.
use Rattle.definitions.proofs.Answers.{answer_good, answer_refused}
use Rattle.definitions.specs.Entry.{set_address}
use Rattle.entry.proofs.Bits.{table_mask, fits_mask, misfits_mask, fits_yes}
use Rattle.entry.proofs.PageTableEntry.set_addr.Goals as goal

pub returns-then-addr-ne0 : goal.returns-then-addr-ne0
unfolding set_address
returns-then-addr-ne0 c =
    let a = c.args in
    answer_refused _ _ a.self.now.entry (misfits_mask table_mask a.addr c.ranges.addr.fits c.if-addr-ne0.true)

pub with_address-self-requires : goal.with_address-self-requires
with_address-self-requires c = fits_mask table_mask c.args.addr c.ranges.addr.fits c.if-addr-ne0.false

pub returns : goal.returns
unfolding set_address
returns c =
    let a = c.args in
    let f = fits_mask table_mask a.addr c.ranges.addr.fits c.if-addr-ne0.false in
    answer_good _ _ _ a.self.now.entry (fits_yes 4096 a.addr f.0 f.1) c.with_address-self.ensures
