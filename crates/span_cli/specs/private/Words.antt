-- What the readers of words give.
use Rattle.std.specs.Prelude.{◌≡◌, ℕ, List, codes, decimal}
use Rattle.span_io.specs.Forms.{form_word}
use Rattle.span_notes.specs.Pairs.{texts}
use Rattle.span_cli.specs.GaugeLines.{IsGaugeCount}
use Rattle.span_cli.specs.declared.command.Command.{Command}
use Rattle.propagation.specs.HeaderForms.{header_form_word}
use Rattle.span_cli.specs.declared.command.Command.TheVariants.{Convert, Losses, Show, Check, Headers, Gauge}
use Rattle.span_cli.specs.declared.command.Long.{Long}
use Rattle.span_cli.specs.declared.command.Long.TheVariants as longs
use Rattle.span_cli.specs.declared.command.Short.{Short}
use Rattle.span_cli.specs.declared.command.Short.TheVariants as shorts
use Rattle.span_cli.specs.declared.command.Side.{Side}
use Rattle.span_cli.specs.declared.command.Side.TheVariants.{From, To}
use Rattle.span_cli.specs.Commands.{side_word, spans_word}

-- the other one of the options `--from` and `--to`
abbrev pub other_side : Side → Side
other_side From = To
other_side To = From

-- the modes with one option, and which it is
abbrev pub short_word : Short → List ℕ
short_word shorts.Show = codes "show"
short_word shorts.Check = codes "check"
short_word shorts.Headers = codes "headers"
short_word shorts.Gauge = codes "gauge"

-- the option of each of these modes
abbrev pub short_option : Short → List ℕ
short_option shorts.Show = side_word From
short_option shorts.Check = side_word From
short_option shorts.Headers = side_word To
short_option shorts.Gauge = spans_word

-- ---- commands

-- the command of this mode reads the form of the first word, and writes that of the second or what a move to it loses
abbrev pub GoesBetween : Command → Long → List ℕ → List ℕ → Type 0
GoesBetween (Convert from to) longs.Convert source target = (source ≡ form_word from) × (target ≡ form_word to)
GoesBetween (Losses from to) longs.Losses source target = (source ≡ form_word from) × (target ≡ form_word to)
GoesBetween other long source target = ⊥

-- the command shows or checks the form of the word, or writes headers in it
abbrev pub ShowsForm : Command → List ℕ → Type 0
ShowsForm (Show from) source = source ≡ form_word from
ShowsForm other source = ⊥

-- the command checks the form of the word
abbrev pub ChecksForm : Command → List ℕ → Type 0
ChecksForm (Check from) source = source ≡ form_word from
ChecksForm other source = ⊥

-- the command writes header lines in the form of the word
abbrev pub WritesHeaders : Command → List ℕ → Type 0
WritesHeaders (Headers form) target = target ≡ header_form_word form
WritesHeaders other target = ⊥

-- the word is the decimal of as many spans as may be asked for, without leading zeros
abbrev pub TellsSpans : List ℕ → ℕ → Type 0
TellsSpans word spans = (word ≡ decimal spans) × IsGaugeCount spans

-- the command writes the sizes of the gauge of as many spans as the word tells
abbrev pub WritesSizes : Command → List ℕ → Type 0
WritesSizes (Gauge spans) word = TellsSpans word spans
WritesSizes other word = ⊥
