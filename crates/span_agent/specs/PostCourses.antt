-- How the calls on a post went, with another one. Whether it went well is told by a truth value.
use Rattle.std.specs.Prelude.{Bool, true, false}
use Rattle.span_agent.specs.declared.course.PostCourse.{PostCourse}
use Rattle.span_agent.specs.declared.course.PostCourse.TheVariants as posts

-- A post is asked to listen at first, and never again.
abbrev pub listen_next : Bool → PostCourse → PostCourse
listen_next true posts.Fresh = posts.Listening
listen_next false posts.Fresh = posts.Stopped
listen_next well other = posts.InVain

-- It is asked for a datagram where it listens and none of its calls failed.
abbrev pub receive_next : Bool → PostCourse → PostCourse
receive_next true posts.Listening = posts.Listening
receive_next false posts.Listening = posts.Stopped
receive_next well other = posts.InVain
