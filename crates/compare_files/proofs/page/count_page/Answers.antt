-- `count_page` meets its contract: pages are comparable, and a list of four words an entry is never too short. No loop.
-- Assumes nothing.
use Rattle.std.proofs.Common.{rules}
use Rattle.compare_files.proofs.Pages.{page_counted}
use Rattle.compare_files.proofs.page.count_page.Goals as goal

pub returns-in-Ok : goal.returns-in-Ok
returns-in-Ok c =
    let pages = c.args.pages.now in
    page_counted pages.older pages.newer (search rules) (search rules) (search rules) c.in-Ok.ensures

pub returns-in-Err : goal.returns-in-Err
returns-in-Err c =
    let pages = c.args.pages.now in
    page_counted pages.older pages.newer (search rules) (search rules) (search rules) c.in-Err.ensures
