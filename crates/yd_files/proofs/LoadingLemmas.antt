-- What is read of a file so far, after one more call.
use Rattle.std.proofs.Common.{◌≡◌, ℕ, ◌+◌, ◌^◌, ◌<◌, ◌≤◌, List, ◌++◌, length, take, Option, Some, None, Result, Ok, Err, sym, ap, subst, ◌∙◌, append_assoc, arith}
use Rattle.std.proofs.Math.Seq.{take-append-add}
use Rattle.std.proofs.lemmas.List.{drop_at, length-append, length-take}
use Rattle.yd_world.specs.Shelf.{Shelf, Gives}
use Rattle.yd_world.specs.declared.fault.Failed.{Failed}
use Rattle.yd_files.specs.Loading.{BeginsLast, IsReading, Loads, ReadsInto}
use Rattle.yd_files.specs.declared.fault.LoadFault.TheVariants.{TooLarge}

more_read : (old now new : Option Shelf) (name read into : List ℕ) (count : ℕ) → IsReading old now name read → Gives {E = Failed} now new into (Ok count) → IsReading old new name (read ++ take count into)
more_read None now new name read into count r g = tt
more_read (Some old) None new name read into count r g = absurd r
more_read (Some old) (Some now) None name read into count r g = absurd g
more_read (Some old) (Some now) (Some new) name read into count r g =
    (g.0 ∙ r.0, r.1 ∙ ap (λ (l : List ℕ). Some l) (ap (λ (l : List ℕ). read ++ l) g.1 ∙ sym (append_assoc read (take count into) new.unread)), g.3 ∙ r.2)

-- ---- lemmas for callers

-- what is read was begun last
pub begins_last : (told now : Option Shelf) (name read : List ℕ) → IsReading told now name read → BeginsLast told now name
begins_last None now name read r = tt
begins_last (Some told) None name read r = r
begins_last (Some told) (Some now) name read r = rw r.1 r.2

-- and stays so in a call that reads
pub begins_after : (told now next : Option Shelf) (name read into : List ℕ) (result : Result ℕ Failed) → IsReading told now name read → Gives now next into result → BeginsLast told next name
begins_after told now next name read into (Ok count) r g = begins_last told next name (read ++ take count into) (more_read told now next name read into count r g)
begins_after None now next name read into (Err e) r g = tt
begins_after (Some told) None next name read into (Err e) r g = absurd r
begins_after (Some told) (Some now) None name read into (Err e) r g = absurd g
begins_after (Some told) (Some now) (Some next) name read into (Err e) r g = rw r.1 (ap (λ (s : Shelf). s.begun) g ∙ r.2)

-- the filled front of the buffer, after a call that read into the rest of it
pub fills : (filled count : ℕ) (old into new : List ℕ) → filled ≤ length old → new ≡ take filled old ++ into → take (filled + count) new ≡ take filled old ++ take count into
fills filled count old into new within is =
    let len : length (take filled old) ≡ filled = omega (arith, length-take filled old) in
    rw is (subst (λ (n : ℕ). take (n + count) (take filled old ++ into) ≡ take filled old ++ take count into) len (take-append-add (take filled old) into count))

-- one more call read more of the name
pub reading_more : (told now new : Option Shelf) (name : List ℕ) (was old after : List ℕ) (filled count : ℕ) → filled ≤ length old → take filled old ≡ take filled was
    → IsReading told now name (take filled was) → ReadsInto now new old after filled (Ok count) → IsReading told new name (take (filled + count) after)
reading_more told now new name was old after filled count within kept so_far r =
    let front : IsReading told now name (take filled old) = rw kept so_far in
    rw (fills filled count old r.into after within r.buffer) (more_read told now new name (take filled old) r.into count front r.gives)

-- more was read than a file may have
pub too_large : (told now : Option Shelf) (name buffer : List ℕ) (filled : ℕ) → filled ≤ length buffer → length buffer ≤ 2 ^ 28 + 1 → 2 ^ 28 < filled → IsReading told now name (take filled buffer) → Loads told now name (Err TooLarge)
too_large None now name buffer filled within small past r = tt
too_large (Some told) None name buffer filled within small past r = absurd r
too_large (Some told) (Some now) name buffer filled within small past r =
    let len : length (take filled buffer) ≡ 2 ^ 28 + 1 = omega (arith, length-take filled buffer) in
    (take filled buffer ++ now.unread, r.1, omega (arith, length-append (take filled buffer) now.unread), sym (drop_at (take filled buffer) now.unread (2 ^ 28 + 1) len))
