-- The address and the port at which connections are taken.
use Rattle.std.specs.Prelude.{◌≡◌, ℕ, [], ◌∷◌, Option, Some, None}
use Rattle.std.specs.declared.net.ip_addr.IpAddr.{IpAddr}
use Rattle.std.specs.declared.net.socket_addr.SocketAddr.{SocketAddr}
use Rattle.std.specs.Net.Addr.{ipv4_octets, IsV4And}
use Rattle.std.specs.Net.Socket.{socket_ip, socket_port}

-- the address that was asked for, or 127.0.0.1, that only this machine reaches
abbrev pub IsOwnOr : Option IpAddr → IpAddr → Type 0
IsOwnOr (Some given) ip = ip ≡ given
IsOwnOr None ip = IsV4And ip (λ v4. ipv4_octets v4 ≡ 127 ∷ 0 ∷ 0 ∷ 1 ∷ [])

abbrev pub IsBoundAt : Option IpAddr → ℕ → SocketAddr → Type 0
IsBoundAt address port at = IsOwnOr address (socket_ip at) × (socket_port at ≡ port)
