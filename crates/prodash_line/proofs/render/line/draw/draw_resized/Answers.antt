use Rattle.std.proofs.Common.{subst, ap, ◌∙◌}
use Rattle.prodash_line.specs.declared.render.line.draw.input.Input.TheVariants.{Resize}
use Rattle.prodash_line.specs.Screens.{WritesFrame}
use Rattle.prodash_line.specs.Renderer.{Renderer, frame_bytes, next_renderer}
use Rattle.prodash_line.specs.Tracking.{tracked}
use Rattle.prodash_line.specs.plumbing.Observing.{tracker_by}
use Rattle.prodash_line.proofs.Ticks.{resizes, drawn_at}
use Rattle.prodash_line.proofs.render.line.draw.draw_resized.Goals as goal

pub returns : goal.returns
returns g c =
    let input = Resize c.args.at c.args.show c.args.size.0 c.args.size.1 in
    let drawn = c.in_ok-drawn.drawn in
    let composed = c.compose_resized.new.tracker in
    let kept = c.keep_observed.new.tracker in
    record {
      running = c.requires;
      returned = drawn_at c.args.state.now c.args.at c.args.show c.args.size.0 c.args.size.1;
      renderer = ap (λ (x : Renderer). tracked x kept) c.set_size.ensures
          ∙ resizes c.state.inside.past c.send_frame.new.past c.state.inside.tracker composed kept c.args.at c.args.show c.args.size.0 c.args.size.1 drawn
          c.in_ok-send_frame.ensures.begun c.in_ok-drawn.ensures.state
          (c.keep_observed.ensures ∙ ap (λ rows. tracker_by drawn.action composed rows) c.latest_rows.ensures)
          ∙ ap (λ (x : Renderer). next_renderer x input) c.state.view_is;
      screen = subst (λ bytes. WritesFrame bytes (g.S.Screen.state c.args.screen.now) (g.S.Screen.state c.send_frame.new.screen))
          (c.bytes.ensures ∙ c.in_ok-drawn.ensures.bytes ∙ ap (λ (x : Renderer). frame_bytes x input) c.state.view_is) c.in_ok-send_frame.ensures.written;
    }
