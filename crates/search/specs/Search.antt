-- A search through a queue, in the model's terms.
use Rattle.std.specs.Prelude.{◌≡◌, ℕ, suc, ◌<◌}
use Rattle.bondset.specs.Sets.{members, length_to}
use Rattle.model.specs.Net.{Net}
use Rattle.model.specs.Layer.{wave, layer}
use Rattle.search.specs.declared.Search.{Search}
use Rattle.search.specs.Queue.{queued}

-- The queue holds as many atoms as are seen.
abbrev pub Ready : Search → Type 0
Ready s = s.queue.end ≡ length_to 64 s.seen

-- The search from r at distance d: the atoms under r one step further; and, while there are any, all atoms seen, and the front in the queue.
pub record Layering (G : Net) (pre r d : ℕ) (s : Search) : Type 0 where
  pub under : s.under ≡ layer G pre r (suc d)
  pub seen : 0 < s.under → s.seen ≡ (wave G pre r d).seen
  pub ready : 0 < s.under → Ready s
  pub front : 0 < s.under → queued s.queue ≡ members 64 (wave G pre r d).front

-- From any search at distance d to that at the next.
abbrev pub Goes : Net → ℕ → Search → Search → Type 0
Goes G pre s s' = (r d : ℕ) → Layering G pre r d s → Layering G pre r (suc d) s'
