use Rattle.span_tags.proofs.EscapeLaws.{esc_free, esc_injective, esc_untouched, unesc_esc, esc_unesc}
use Rattle.span_tags.proofs.laws.keys_read_back.Goals as goal

pub returns : goal.returns
returns g c = record {
  free = esc_free g.R.Reserves.reserved c.requires.apart;
  apart = esc_injective g.R.Reserves.reserved;
  stays = esc_untouched g.R.Reserves.reserved;
  back = unesc_esc g.R.Reserves.reserved;
  again = esc_unesc g.R.Reserves.reserved;
}
