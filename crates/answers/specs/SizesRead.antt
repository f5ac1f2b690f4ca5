-- The sizes of a sheet as its trailer tells them, and the bounds that follow: what is known of a sheet whose trailer passed, and so of
-- each accepted one (S6, R1, R3, R4).
-- Assumes nothing.
use Rattle.std.specs.Prelude.{◌≡◌, List, ℕ, ◌+◌, ◌*◌, ◌≤◌, length}
use Rattle.sheet.specs.Bounds.{record_size, step_size, trailer_size, longest, most_components, most_actions, most_steps}
use Rattle.sheet.specs.Layout.{component_count, action_count, transitions_at, steps_at}
use Rattle.answers.specs.declared.Sizes.{Sizes}

-- S6: z has n, m, T and S of the sheet b; the bounds follow from R1, R3 and R4
pub record SizesRead (b : List ℕ) (z : Sizes) : Type 0 where
  pub n_read : z.n ≡ component_count b
  pub m_read : z.m ≡ action_count b
  pub t_read : z.t ≡ transitions_at b
  pub s_read : z.s ≡ steps_at b
  pub n_low : 1 ≤ z.n
  pub n_high : z.n ≤ most_components
  pub m_high : z.m ≤ most_actions
  pub t_next : z.t ≡ record_size * z.n
  pub s_behind : z.t ≤ z.s
  pub trailer_last : z.s + trailer_size ≤ length b
  pub steps_fit : length b ≤ z.s + step_size * most_steps + trailer_size
  pub length_high : length b ≤ longest
