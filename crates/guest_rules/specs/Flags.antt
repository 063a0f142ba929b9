-- Which pages count as written, from one moment to a later one.
use Rattle.std.specs.Prelude.{◌≡◌, ℕ, Bool, true, List}
use Rattle.paged_memory.specs.Pages.{is_written}

-- each page that counted as written before still does after
pub record KeepsFlags (before after : List Bool) : Type 0 where
  pub written : (page : ℕ) → is_written before page ≡ true → is_written after page ≡ true
