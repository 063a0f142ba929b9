-- The numbers of the rules that an image keeps. Every definition cites these, here and in the crates above; that the code's constants
-- are they is the law `limits_are_the_rules`.
use Rattle.std.specs.Prelude.{ℕ, ◌^◌}

-- the pair's rules: at most 4 checkpoints are pending, so the primary has heard of every commit but the last 4
abbrev pub max_kept : ℕ
max_kept = 4

-- the pair's rules: frames have numbers below 2^62
abbrev pub number_limit : ℕ
number_limit = 2 ^ 62
