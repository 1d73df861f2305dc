pub mod Text  -- numerals, and texts put one after the other
pub mod Lines  -- the lines of changes, and of quadruples
pub mod Pages  -- two pages, and the pages of two images
pub mod Examples  -- the document's example
