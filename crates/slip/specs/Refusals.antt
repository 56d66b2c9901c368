-- The refusals' numbers and layers: the one table that every promise about a refusal goes by.
use Rattle.std.specs.Prelude.{ℕ}
use Rattle.slip.specs.declared.Refusal.{Refusal}
use Rattle.slip.specs.declared.Refusal.TheVariants.{Truncated, BadCount, BadBits, OutOfRange, Surplus, NoSuchCell, WrongLetters, BrokenIdentity, BusyCell, TooManySteps, BadArgument, DocketFull, Unknown, EmptySet, OtherCell, BoundTooLarge, NotHeld, BadScale, NoTrail, NotThere, CountTooLarge, NoConfiguration}

-- number and layer: 1 bytes, 2 model, 3 clock set, 4 docket
abbrev pub listed : Refusal → ℕ × ℕ
listed Truncated = (1, 1)
listed BadCount = (2, 1)
listed BadBits = (3, 1)
listed OutOfRange = (4, 1)
listed Surplus = (5, 1)
listed NoSuchCell = (6, 2)
listed WrongLetters = (7, 2)
listed BrokenIdentity = (8, 2)
listed BusyCell = (9, 2)
listed TooManySteps = (10, 2)
listed BadArgument = (11, 3)
listed DocketFull = (12, 4)
listed Unknown = (13, 4)
listed EmptySet = (14, 4)
listed OtherCell = (15, 4)
listed BoundTooLarge = (16, 3)
listed NotHeld = (17, 4)
listed BadScale = (18, 4)
listed NoTrail = (19, 4)
listed NotThere = (20, 4)
listed CountTooLarge = (21, 4)
listed NoConfiguration = (22, 4)

abbrev pub number : Refusal → ℕ
number r = (listed r).0

abbrev pub layer : Refusal → ℕ
layer r = (listed r).1
