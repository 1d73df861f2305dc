-- `differences` meets its contract: where its lines are to be listed the list has the changes, so the lines of its quadruples are the
-- page's. No loop.
-- Assumes nothing.
use Rattle.compare_files.proofs.Pages.{page_lines_lem}
use Rattle.compare_files.proofs.page.differences.Goals as goal

pub returns-then-is_listing : goal.returns-then-is_listing
returns-then-is_listing c =
    let counts = c.count_page-count.ensures in
    record { counts = counts; puts = rw (c.if-is_listing.true, ← page_lines_lem c.args.table counts) c.put_lines-length.ensures }
