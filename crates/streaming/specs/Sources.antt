-- What is known of what was read.
use Rattle.std.specs.Prelude.{◌≡◌, ℕ, ◌+◌, ◌-◌, ◌<◌, ◌≤◌, true, false, List, [], ◌++◌, length, take, drop, Result, Ok, Err}
use Rattle.streaming.specs.declared.source.Source.{Source}

-- nothing is read, and the input is not over
abbrev pub unread_yet : Source
unread_yet = record { fill = 0; over = false; failed = false }

-- how many octets a read brought: one that failed, none
abbrev pub brought : {E : Type 0} → Result ℕ E → ℕ
brought (Ok n) = n
brought (Err e) = 0

-- the octets from `at` on that were read
abbrev pub octets_from : List ℕ → ℕ → Source → List ℕ
octets_from buf at s = take (s.fill - at) (drop at buf)

-- ALL THAT IS KNOWN OF A READ: the octets before it are as they were, the buffer is as long, and what came is inside.
-- Which octets came, and that it failed, is the system's to say
pub record ReadBehind {E : Type 0} (kept : ℕ) (before after : List ℕ) (got : Result ℕ E) : Type 0 where
  pub front : take kept after ≡ take kept before
  pub size : length after ≡ length before
  pub inside : kept + brought got ≤ length after

-- what was read stands behind the octets from `at` on, which stand at the start now; nothing is left to read exactly where nothing was read
pub record ReadMore (before after : List ℕ) (at : ℕ) (s r : Source) : Type 0 where
  pub size : length after ≡ length before
  pub inside : r.fill ≤ length after
  pub longer : s.fill - at ≤ r.fill
  pub kept : take (s.fill - at) (octets_from after 0 r) ≡ octets_from before at s
  pub grown : r.over ≡ false → s.fill - at < r.fill
  pub over : r.over ≡ true → octets_from after 0 r ≡ octets_from before at s
  pub failed : r.failed ≡ true → r.over ≡ true

-- READS IN A ROW, from the octets held in b from `at` on to those held in c from n on: what was read on the way, and what was taken, each in order.
-- A step takes octets that are held; or it reads a piece behind them, but not where a read has given nothing.
pub data Goes (b : List ℕ) (at : ℕ) (s : Source) : List ℕ → ℕ → Source → List ℕ → List ℕ → Type 0 where
  here : Goes b at s b at s [] []
  takes : {c : List ℕ} {n : ℕ} {t : Source} {read taken : List ℕ} → Goes b at s c n t read taken → (k : ℕ) → n + k ≤ t.fill
      → Goes b at s c (n + k) t read (taken ++ take k (drop n c))
  reads : {c after : List ℕ} {n : ℕ} {t r : Source} {read taken : List ℕ} → Goes b at s c n t read taken → t.over ≡ false → ReadMore c after n t r
      → Goes b at s after 0 r (read ++ drop (t.fill - n) (octets_from after 0 r)) taken
